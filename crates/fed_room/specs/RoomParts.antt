-- The room that the fields of a `Room` stand for, and how they hold together.
use Rattle.std.specs.Prelude.{◌≡◌, string_bytes}
use Rattle.fed_room_contract.specs.Graph.{IsGraph}
use Rattle.fed_room.specs.declared.room.Room.TheInside.{Inside}
use Rattle.fed_room.specs.States.{states_after}
use Rattle.fed_room.specs.Room.{RoomValue}

abbrev pub value_of : Inside → RoomValue
value_of r = record { own = string_bytes r.own; store = r.store; next = r.states.next }

pub record HoldsTogether (r : Inside) : Type 0 where
  pub graph : IsGraph r.store.room.stored
  pub after : r.states.after ≡ states_after r.store.room.stored
