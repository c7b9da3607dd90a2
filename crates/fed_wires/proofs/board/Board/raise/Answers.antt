use Rattle.std.proofs.Common.{◌≡◌, ◌<◌, ◌+◌, ap, sym, ◌∙◌, subst, arith}
use Rattle.atomic_table.specs.Seated.{TableId}
use Rattle.fed_wires.specs.Board.{BoardId, Shown}
use Rattle.fed_wires.specs.Seat.{Seated, IsOwner}
use Rattle.fed_wires.proofs.Counting.{raises}
use Rattle.fed_wires.proofs.board.Board.raise.Goals as goal

pub fetch_max-requires : goal.fetch_max-requires
fetch_max-requires c =
    let seat = ap (λ (x : Seated). x.board.table) c.seat.view_is in
    let board = ap (λ (x : Shown). x.id.table) c.self.view_is in
    let same = seat ∙ ap (λ (x : BoardId). x.table) c.requires.board ∙ sym board in
    let words = ap (λ (z : TableId). z.words) same in
    let owner : c.seat.inside.token.me.0.owned.until ≡ c.seat.inside.token.me.0.owned.from + 1 = subst IsOwner (sym c.seat.view_is) c.requires.owner in
    let within : c.seat.inside.word < c.self.inside.table.shared.table_id.words = omega (arith, owner, words, c.seat.invariant.1, c.seat.invariant.2) in
    (same, within, raises _ _ _ _ _ _ c.seat.invariant.1 (omega (arith, owner, c.seat.invariant.1)) (omega (arith, within, c.self.invariant.0)))
