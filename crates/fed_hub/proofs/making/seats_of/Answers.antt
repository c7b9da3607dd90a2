use Rattle.std.proofs.Common.{◌≡◌, ◌∷◌, ◌++◌, [], length, length-append, sym, ap, ◌∙◌, subst}
use Rattle.fed_wires.specs.BoardRule.{owned}
use Rattle.fed_wires.specs.Seat.{Seated}
use Rattle.fed_hub.proofs.Seating.{AreLeft, first_left, others_left, one_more, taken}
use Rattle.fed_hub.proofs.making.seats_of.Goals as goal

pub new-requires : goal.new-requires
new-requires g c =
    let board = g.N.Naming.board in
    let place = length c.loop-reader.seats.items in
    let left = subst (AreLeft board (λ _. owned 0 0 0) place) c.in-Some.ensures.steps.0 c.loop-reader.invariant.left in
    let new = first_left board (λ _. owned 0 0 0) place c.in-Some.reader c.next.new.self.rest.items left in
    (ap (λ (s : Seated). s.board) new, ap (λ (s : Seated). s.owned) new)

pub loop-reader-preserved : goal.loop-reader-preserved
loop-reader-preserved g c =
    let board = g.N.Naming.board in
    let seats = c.loop-reader.seats.items in
    let rest = c.next.new.self.rest.items in
    let left = subst (AreLeft board (λ _. owned 0 0 0) (length seats)) c.in-Some.ensures.steps.0 c.loop-reader.invariant.left in
    let more : c.push.new.self.items ≡ seats ++ c.in-Some.reader ∷ [] = taken seats _ _ c.in-Some.reader c.in_ok-push.ensures.items c.new.ensures in
    record {
      all = one_more seats _ _ rest _ c.in-Some.reader more c.in-Some.ensures.steps.0 c.loop-reader.invariant.all;
      left = subst (λ n. AreLeft board (λ _. owned 0 0 0) n rest) (sym (ap length more ∙ length-append seats (c.in-Some.reader ∷ []))) (others_left board (λ _. owned 0 0 0) (length seats) c.in-Some.reader rest left);
    }
