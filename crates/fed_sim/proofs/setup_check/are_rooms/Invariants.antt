use Rattle.std.proofs.Common.{◌≡◌, take, drop}
use Rattle.fed_sim.specs.Setup.{are_rooms, are_rooms_beside}
use Rattle.fed_sim.proofs.setup_check.are_rooms.Given as goal

-- what is left decides
abbrev pub invariant-loop-place : goal.invariant-loop-place
invariant-loop-place l = are_rooms l.servers l.rooms ≡ are_rooms_beside l.servers (take l.place l.rooms) (drop l.place l.rooms)
