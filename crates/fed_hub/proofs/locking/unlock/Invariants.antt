use Rattle.std.proofs.Common.{◌≡◌, ◌+◌, length, vec_capacity}
use Rattle.fed_hub.proofs.locking.unlock.Given as goal

-- nothing is lost, and each keeps its room
abbrev pub invariant-loop-lock : goal.invariant-loop-lock
invariant-loop-lock g l = record {
  all : length l.opened.items + length l.locks.items ≡ length l.fn.opened.items + length l.fn.locks.items;
  locks : vec_capacity l.locks ≡ vec_capacity l.fn.locks;
  opened : vec_capacity l.opened ≡ vec_capacity l.fn.opened;
}

abbrev pub decreases-loop-lock : goal.decreases-loop-lock
decreases-loop-lock g l = length l.locks.items
