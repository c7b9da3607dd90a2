use Rattle.std.proofs.Common.{◌≡◌, ◌<◌, ◌≤◌, ℕ, Some}
use Rattle.std.specs.List.{slice_get}
use Rattle.fed_sim.specs.Way.{WayState, ways_of}
use Rattle.fed_sim.proofs.entering.make_room.Given as goal

-- the ways that were passed have the room, and hold what they held
abbrev pub invariant-loop-way : goal.invariant-loop-way
invariant-loop-way l = (ways_of l.ways ≡ ways_of l.initial.ways) × ((d : ℕ) (way : WayState) → d < l.way-index → slice_get l.ways d ≡ Some way → 1 ≤ way.free)
