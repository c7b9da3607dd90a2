use Rattle.std.proofs.Common.{◌≡◌, ◌++◌, vec_capacity}
use Rattle.std.specs.List.{AllZip}
use Rattle.fed_hub.specs.Seats.{IsSeatOf}
use Rattle.fed_hub.proofs.seats.part.Given as goal

-- those parted, and behind them those that are left, are all; and each list keeps its room
abbrev pub invariant-loop-one : goal.invariant-loop-one
invariant-loop-one g l = record {
  all : l.outboxes.items ++ l.one-iterator.rest.items ≡ l.fn.seated.items;
  seats : AllZip (IsSeatOf g.N.Naming.board) l.outboxes.items l.seats.items;
  room : vec_capacity l.outboxes ≡ vec_capacity l.fn.outboxes;
  for_seats : vec_capacity l.seats ≡ vec_capacity l.fn.seats;
}
