use Rattle.std.proofs.Common.{◌≡◌, length}
use Rattle.fed_sim.specs.Starts.{AreStarts}
use Rattle.fed_sim.proofs.starting.starts.Given as goal

-- the events of the rooms so far
abbrev pub invariant-loop-room : goal.invariant-loop-room
invariant-loop-room l = (length l.starts.items ≡ l.room-index) × AreStarts l.keys l.rooms l.starts.items
