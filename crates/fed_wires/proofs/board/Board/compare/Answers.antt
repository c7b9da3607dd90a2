use Rattle.std.proofs.Common.{◌≡◌, ◌+◌, ap, sym, ◌∙◌, subst, arith}
use Rattle.atomic_table.specs.Seated.{TableId}
use Rattle.fed_wires.specs.Board.{BoardId, Shown}
use Rattle.fed_wires.specs.Seat.{Seated, IsOwner}
use Rattle.fed_wires.proofs.Counting.{deals, admits, judges, loads, owns}
use Rattle.fed_wires.proofs.board.Board.compare.Goals as goal

pub split_seat-own-requires : goal.split_seat-own-requires
split_seat-own-requires c =
    let seat = ap (λ (x : Seated). x.board.table) c.owner.view_is in
    let board = ap (λ (x : Shown). x.id.table) c.self.view_is in
    let owner : c.owner.inside.token.me.0.owned.until ≡ c.owner.inside.token.me.0.owned.from + 1 = subst IsOwner (sym c.owner.view_is) c.requires.owner in
    (seat ∙ ap (λ (x : BoardId). x.table) c.requires.board.0 ∙ sym board, c.self.invariant.1, deals _ _ _ (omega (arith, owner)))

pub split_seat-seen-requires : goal.split_seat-seen-requires
split_seat-seen-requires c =
    let seat = ap (λ (x : Seated). x.board.table) c.reader.view_is in
    let board = ap (λ (x : Shown). x.id.table) c.self.view_is in
    (seat ∙ ap (λ (x : BoardId). x.table) c.requires.board.1 ∙ sym board, c.self.invariant.1, admits _ _ _)

pub join_seat-requires : goal.join_seat-requires
join_seat-requires c =
    let owner = ap (λ (x : Seated). x.board.table) c.owner.view_is in
    let reader = ap (λ (x : Seated). x.board.table) c.reader.view_is in
    let board = ap (λ (x : Shown). x.id.table) c.self.view_is in
    let mine = owner ∙ ap (λ (x : BoardId). x.table) c.requires.board.0 ∙ sym board in
    let theirs = reader ∙ ap (λ (x : BoardId). x.table) c.requires.board.1 ∙ sym board in
    (c.split_seat-own.ensures.3 ∙ mine, c.split_seat-seen.ensures.3 ∙ theirs, ap (λ m. m.1) c.split_seat-seen.ensures.4, c.self.invariant.1, judges _ _ _ _ _)

pub load-requires : goal.load-requires
load-requires c =
    let owner = ap (λ (x : Seated). x.board.table) c.owner.view_is in
    let board = ap (λ (x : Shown). x.id.table) c.self.view_is in
    let mine = owner ∙ ap (λ (x : BoardId). x.table) c.requires.board.0 ∙ sym board in
    let words = ap (λ (z : TableId). z.words) mine in
    let one : c.owner.inside.token.me.0.owned.until ≡ c.owner.inside.token.me.0.owned.from + 1 = subst IsOwner (sym c.owner.view_is) c.requires.owner in
    (c.join_seat.ensures.0 ∙ c.split_seat-own.ensures.3 ∙ mine, omega (arith, one, words, c.owner.invariant.1, c.owner.invariant.2), loads _ _ _ _ _)

pub join_seat-requires-2 : goal.join_seat-requires-2
join_seat-requires-2 c =
    let owner = ap (λ (x : Seated). x.board.table) c.owner.view_is in
    let board = ap (λ (x : Shown). x.id.table) c.self.view_is in
    let mine = owner ∙ ap (λ (x : BoardId). x.table) c.requires.board.0 ∙ sym board in
    let held = ap (λ m. m.1) c.load.ensures.2.0 ∙ ap (λ m. m.1) c.join_seat.ensures.2 ∙ ap (λ m. m.1) c.split_seat-own.ensures.4 in
    (c.split_seat-own.ensures.0 ∙ mine, c.load.ensures.0 ∙ c.join_seat.ensures.0 ∙ c.split_seat-own.ensures.3 ∙ mine, held, c.self.invariant.1, owns _ _ _ _ _)
