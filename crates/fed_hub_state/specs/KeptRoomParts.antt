-- The room that the fields of a `KeptRoom` stand for, and how they hold together.
use Rattle.std.specs.Prelude.{◌≡◌, ◌<◌, ◌-◌, length, vec_len, vec_capacity}
use Rattle.fed_room_contract.specs.Room.{empty_room}
use Rattle.fed_room_contract.specs.Runs.{room_after, AllMayBeGiven}
use Rattle.fed_room.specs.Room.{room_of, room_rules}
use Rattle.fed_room.specs.Start.{after_all}
use Rattle.fed_hub_state.specs.declared.kept_room.KeptRoom.TheInside.{Inside}
use Rattle.fed_hub_state.specs.KeptRoom.{KeptState}

abbrev pub kept_of : Inside → KeptState
kept_of k = record { room = k.room; start = k.start.items; inputs = k.inputs.items; free = vec_capacity k.inputs - vec_len k.inputs }

-- it is the room that began with its start, which is not empty, after its inputs, each of which it might be given
pub record IsKept (k : Inside) : Type 0 where
  pub some : 0 < length k.start.items
  pub after : room_of k.room ≡ room_after room_rules (after_all room_rules empty_room k.start.items) k.inputs.items
  pub may : AllMayBeGiven room_rules (after_all room_rules empty_room k.start.items) k.inputs.items
