use Rattle.std.proofs.Common.{◌≡◌, map, take, string_bytes}
use Rattle.fed_sim.specs.declared.setup.RoomSetup.{RoomSetup}
use Rattle.fed_sim.proofs.running.ids_of.Given as goal

-- the ids so far
abbrev pub invariant-loop-room : goal.invariant-loop-room
invariant-loop-room l = map string_bytes l.ids.items ≡ take l.room-index (map (λ (r : RoomSetup). string_bytes r.id) l.rooms)
