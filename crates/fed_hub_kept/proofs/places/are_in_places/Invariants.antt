use Rattle.std.proofs.Common.{◌≡◌, map, string_bytes, take}
use Rattle.fed_hub_state.specs.KeptRoom.{id_of}
use Rattle.fed_hub_kept.proofs.places.are_in_places.Given as goal

-- the rooms so far
abbrev pub invariant-loop-place : goal.invariant-loop-place
invariant-loop-place l = map id_of (take l.place l.rooms) ≡ map string_bytes (take l.place l.ids)
