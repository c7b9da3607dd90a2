use Rattle.std.proofs.Common.{◌≡◌, ◌-◌, ℕ, List, All, get_or, length, take, ap, sym, ◌∙◌, subst, take_all, arith}
use Rattle.std.proofs.lemmas.List.Elements.{All-more}
use Rattle.fed_wires.specs.Board.{Shown, word_count}
use Rattle.fed_wires.specs.Seat.{AreAt, Seated, HasShown, IsOwner}
use Rattle.fed_wires.proofs.Seats.{none_saw_more, put_back}
use Rattle.fed_wires.proofs.board.Board.compare_all.Goals as goal

pub looker-looker-requires : goal.looker-looker-requires
looker-looker-requires c =
    let at = subst (AreAt c.args.self.now.id) (sym c.loop-place.invariant.same) c.requires.all.same_board in
    record { board = at c.loop-place.place c.index-seats-place.result (omega arith) }

pub compare_each-requires-clause-board : goal.compare_each-requires-clause-board
compare_each-requires-clause-board c =
    let seats = c.loop-place.seats in
    let same = put_back c.args.seats.now seats c.loop-place.place c.looker-looker.new.seat c.index-seats-place.result c.loop-place.invariant.same c.looker-looker.ensures.same in
    let at = subst (AreAt c.args.self.now.id) (sym c.loop-place.invariant.same) c.requires.all.same_board in
    (subst (AreAt c.args.self.now.id) (sym same) c.requires.all.same_board, c.looker-looker.ensures.seen.0 ∙ at c.loop-place.place c.index-seats-place.result (omega arith))

pub compare_each-requires-clause-owners : goal.compare_each-requires-clause-owners
compare_each-requires-clause-owners c =
    let seats = c.args.seats.now in
    let same = put_back seats c.loop-place.seats c.loop-place.place c.looker-looker.new.seat c.index-seats-place.result c.loop-place.invariant.same c.looker-looker.ensures.same in
    let words : word_count c.args.self.now.id ≡ length seats - c.self.inside.readers = omega (arith, c.requires.all.count, ap (λ (x : Shown). x.readers) c.self.view_is) in
    let owners = subst (λ (n : ℕ). All IsOwner (take n seats)) words c.requires.all.owners_first in
    (omega (arith, ap length same), subst (λ (xs : List Seated). All IsOwner (take (length seats - c.self.inside.readers) xs)) (sym same) owners)

pub loop-place-preserved : goal.loop-place-preserved
loop-place-preserved c =
    let seats = c.args.seats.now in
    let place = c.loop-place.place in
    let d = c.index-seats-place.result in
    let words : ℕ = length seats - c.self.inside.readers in
    let same = put_back seats c.loop-place.seats place c.looker-looker.new.seat d c.loop-place.invariant.same c.looker-looker.ensures.same in
    let seen = c.looker-looker.ensures.seen.1 ∙ ap (λ (xs : List Seated). (get_or xs place d).seen) c.loop-place.invariant.same in
    let here = subst (λ (seen : List ℕ). All (HasShown seen) (take words seats)) seen (subst (λ (xs : List Seated). All (HasShown c.looker-looker.result.seen) (take words xs)) same c.compare_each.ensures.below) in
    record {
      same = c.compare_each.ensures.same.0 ∙ same;
      below = All-more (λ (s : Seated). All (HasShown s.seen) (take words seats)) seats place d (omega arith) c.loop-place.invariant.below here;
    }

pub returns-clause-shown : goal.returns-clause-shown
returns-clause-shown c =
    let seats = c.args.seats.now in
    let words : length seats - c.self.inside.readers ≡ word_count c.args.self.now.id = omega (arith, c.requires.all.count, ap (λ (x : Shown). x.readers) c.self.view_is) in
    let whole : take c.loop-place.place seats ≡ seats = take_all c.loop-place.place seats (omega arith) in
    let compared = subst (λ (n : ℕ). All (λ (s : Seated). All (HasShown s.seen) (take n seats)) seats) words (subst (λ (xs : List Seated). All (λ (s : Seated). All (HasShown s.seen) (take (length seats - c.self.inside.readers) seats)) xs) whole c.loop-place.invariant.below) in
    none_saw_more c.args.self.now.id c.args.self.now.readers seats c.requires.all compared
