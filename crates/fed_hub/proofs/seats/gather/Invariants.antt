use Rattle.std.proofs.Common.{◌≡◌, ◌≤◌, ◌++◌, All, drop, length, vec_capacity}
use Rattle.fed_hub.specs.Seats.{IsReaderAt}
use Rattle.fed_hub.proofs.seats.gather.Given as goal

-- those taken, and behind them those that are left, are all; and the list keeps its room
abbrev pub invariant-loop-reader : goal.invariant-loop-reader
invariant-loop-reader g l = record {
  all : l.seats.items ++ l.reader-iterator.rest.items ≡ l.fn.seats.items ++ l.fn.readers.items;
  some : length l.fn.seats.items ≤ length l.seats.items;
  readers : All (IsReaderAt g.N.Naming.board) (drop (length l.fn.seats.items) l.seats.items);
  room : vec_capacity l.seats ≡ vec_capacity l.fn.seats;
}
