use Rattle.std.proofs.Common.{take}
use Rattle.fed_dest.specs.ServerSet.{is_among}
use Rattle.fed_journal.specs.Lane.{AreChanged, reached}
use Rattle.fed_journal.proofs.lane.reach_lanes.Given as goal

-- the lanes of the destinations that were passed are reached
abbrev pub invariant-loop-dest : goal.invariant-loop-dest
invariant-loop-dest l = AreChanged (is_among (take l.dest-index l.dests)) (reached l.kind l.place) l.initial.lanes l.lanes
