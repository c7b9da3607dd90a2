use Rattle.std.proofs.Common.{arith, ◌+◌, length, length-append, sym, ap, ◌∙◌, subst}
use Rattle.fed_wires.specs.Seat.{Seated, one_word}
use Rattle.fed_hub.proofs.Seating.{AreLeft, first_left, others_left}
use Rattle.fed_hub.proofs.making.outboxes_of.Goals as goal

pub new-outbox-requires-clause-board : goal.new-outbox-requires-clause-board
new-outbox-requires-clause-board g c =
    let board = g.N.Naming.board in
    let left = subst (AreLeft board (λ word. one_word word 0) c.loop-seat.place) c.in-Some.ensures.steps.0 c.loop-seat.invariant.left in
    ap (λ (s : Seated). s.board) (first_left board (λ word. one_word word 0) c.loop-seat.place c.in-Some.seat c.next.new.self.rest.items left)

pub new-outbox-requires-clause-word : goal.new-outbox-requires-clause-word
new-outbox-requires-clause-word g c =
    let board = g.N.Naming.board in
    let left = subst (AreLeft board (λ word. one_word word 0) c.loop-seat.place) c.in-Some.ensures.steps.0 c.loop-seat.invariant.left in
    ap (λ (s : Seated). s.owned) (first_left board (λ word. one_word word 0) c.loop-seat.place c.in-Some.seat c.next.new.self.rest.items left)
    ∙ ap (λ d. one_word d 0) (sym c.new.ensures)

pub loop-seat-preserved : goal.loop-seat-preserved
loop-seat-preserved g c =
    let board = g.N.Naming.board in
    let left = subst (AreLeft board (λ word. one_word word 0) c.loop-seat.place) c.in-Some.ensures.steps.0 c.loop-seat.invariant.left in
    let count = c.loop-seat.invariant.count in
    let made = c.loop-seat.invariant.made in
    record {
      count = omega (arith, count, ap length c.in-Some.ensures.steps.0);
      made = ap length c.in_ok-push.ensures.items ∙ length-append c.loop-seat.outboxes.items _ ∙ ap (λ n. n + 1) made;
      left = others_left board (λ word. one_word word 0) c.loop-seat.place c.in-Some.seat c.next.new.self.rest.items left;
    }
