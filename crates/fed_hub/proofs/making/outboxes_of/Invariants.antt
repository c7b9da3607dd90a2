use Rattle.std.proofs.Common.{◌≡◌, ◌+◌, length}
use Rattle.fed_wires.specs.Seat.{one_word}
use Rattle.fed_hub.proofs.Seating.{AreLeft}
use Rattle.fed_hub.proofs.making.outboxes_of.Given as goal

abbrev pub invariant-loop-seat : goal.invariant-loop-seat
invariant-loop-seat g l = record {
  count : l.place + length l.seat-iterator.rest.items ≡ length l.fn.owners.items;
  made : length l.outboxes.items ≡ l.place;
  left : AreLeft g.N.Naming.board (λ word. one_word word 0) l.place l.seat-iterator.rest.items;
}
