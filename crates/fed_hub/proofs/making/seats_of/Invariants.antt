use Rattle.std.proofs.Common.{◌≡◌, ◌++◌, length}
use Rattle.fed_wires.specs.BoardRule.{owned}
use Rattle.fed_hub.proofs.Seating.{AreLeft}
use Rattle.fed_hub.proofs.making.seats_of.Given as goal

abbrev pub invariant-loop-reader : goal.invariant-loop-reader
invariant-loop-reader g l = record {
  all : l.seats.items ++ l.reader-iterator.rest.items ≡ l.fn.readers.items;
  left : AreLeft g.N.Naming.board (λ _. owned 0 0 0) (length l.seats.items) l.reader-iterator.rest.items;
}
