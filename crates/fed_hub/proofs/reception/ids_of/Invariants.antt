use Rattle.std.proofs.Common.{◌≡◌, map, string_bytes, take}
use Rattle.fed_hub.specs.Setup.{ids_of}
use Rattle.fed_hub.proofs.reception.ids_of.Given as goal

-- those that were passed
abbrev pub invariant-loop-room : goal.invariant-loop-room
invariant-loop-room l = map string_bytes l.ids.items ≡ ids_of (take l.room-index l.rooms)
