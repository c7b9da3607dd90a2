use Rattle.std.proofs.Common.{arith, ◌++◌, ◌∷◌, [], length, length-append, sym, ap, ◌∙◌, subst}
use Rattle.std.specs.List.{AllZip}
use Rattle.std.proofs.lemmas.Slice.Zip.{AllZip-long}
use Rattle.fed_wires.specs.Seat.{one_word}
use Rattle.fed_hub.specs.Seats.{IsSeatOf}
use Rattle.fed_hub.proofs.Ended.{one_fit, one_taken}
use Rattle.fed_hub.proofs.seats.part.Goals as goal

pub push_reserved-requires-in-loop-one : goal.push_reserved-requires-in-loop-one
push_reserved-requires-in-loop-one g c =
    let outboxes = c.loop-one.outboxes.items in
    let rest = c.loop-one.one-iterator.rest.items in
    let long = AllZip-long (IsSeatOf g.N.Naming.board) outboxes c.loop-one.seats.items c.loop-one.invariant.seats in
    omega (arith, long, length-append outboxes rest, ap length c.loop-one.invariant.all, ap length c.in-Some.ensures.steps.0, c.loop-one.invariant.for_seats, c.requires.seats.1, c.loop-one.seats.ok.0)

pub loop-one-preserved : goal.loop-one-preserved
loop-one-preserved g c =
    let board = g.N.Naming.board in
    let outboxes = c.loop-one.outboxes.items in
    let seats = c.loop-one.seats.items in
    let outbox = c.part-outbox.result.0 in
    let seat = c.part-outbox.result.1 in
    let more = c.push_reserved.ensures.items in
    let longer = c.push_reserved-in-loop-one.ensures.items in
    let fit : IsSeatOf board outbox seat = (c.part-outbox.ensures.board, c.part-outbox.ensures.word ∙ ap (λ o. one_word o.dest (length o.settled)) (sym c.part-outbox.ensures.outbox)) in
    record {
      all = one_taken outboxes _ _ _ _ outbox c.in-Some.one more c.part-outbox.ensures.outbox c.in-Some.ensures.steps.0 c.loop-one.invariant.all;
      seats = subst (λ xs. AllZip (IsSeatOf board) xs c.push_reserved-in-loop-one.new.self.items) (sym more) (subst (AllZip (IsSeatOf board) (outboxes ++ outbox ∷ [])) (sym longer) (one_fit (IsSeatOf board) outboxes seats outbox seat c.loop-one.invariant.seats fit));
      room = c.push_reserved.ensures.capacity ∙ c.loop-one.invariant.room;
      for_seats = c.push_reserved-in-loop-one.ensures.capacity ∙ c.loop-one.invariant.for_seats;
    }
