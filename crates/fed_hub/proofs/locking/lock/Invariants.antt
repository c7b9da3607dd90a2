use Rattle.std.proofs.Common.{◌≡◌, ◌+◌, length, vec_capacity}
use Rattle.fed_hub.proofs.locking.lock.Given as goal

-- nothing is lost, and each keeps its room
abbrev pub invariant-loop-one : goal.invariant-loop-one
invariant-loop-one g l = record {
  all : length l.opened.items + length l.locks.items ≡ length l.fn.opened.items + length l.fn.locks.items;
  locks : vec_capacity l.locks ≡ vec_capacity l.fn.locks;
  opened : vec_capacity l.opened ≡ vec_capacity l.fn.opened;
}

abbrev pub decreases-loop-one : goal.decreases-loop-one
decreases-loop-one g l = length l.opened.items
