use Rattle.std.proofs.Common.{◌≡◌, length}
use Rattle.fed_sim.specs.Starts.{AreBegun}
use Rattle.fed_sim.proofs.starting.hosted_rooms.Given as goal

-- the rooms so far
abbrev pub invariant-loop-start : goal.invariant-loop-start
invariant-loop-start l = (length l.hosted.items ≡ l.start-index) × AreBegun l.own l.starts l.hosted.items
