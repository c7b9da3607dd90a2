use Rattle.std.proofs.Common.{nat_lt}
use Rattle.fed_journal.specs.Lane.{AreChanged, with_room}
use Rattle.fed_journal.proofs.lane.reserve_lanes.Given as goal

-- the lanes that were passed have the room
abbrev pub invariant-loop-lane : goal.invariant-loop-lane
invariant-loop-lane l = AreChanged (λ d. nat_lt d l.lane-index) (with_room l.more) l.initial.lanes l.lanes
