use Rattle.std.proofs.Common.{◌≡◌, ℕ, length, Some, slice_get}
use Rattle.fed_journal.specs.Lane.{LaneState, new_lane}
use Rattle.fed_journal.proofs.lane.new_lanes.Given as goal

abbrev pub invariant-loop : goal.invariant-loop
invariant-loop l = (length l.lanes.items ≡ l.counter) × ((d : ℕ) (lane : LaneState) → slice_get l.lanes.items d ≡ Some lane → lane ≡ new_lane)
