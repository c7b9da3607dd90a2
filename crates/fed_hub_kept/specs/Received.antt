-- The events that came to a room, among what it was given (Matrix, Server-Server API, "PDUs"), beside those that its thread gave.
use Rattle.std.specs.Prelude.{◌≡◌, List, Option, Some, None, IsSomeAnd, slice_get}
use Rattle.std.specs.List.{filter_map}
use Rattle.fed_event.specs.Checked.{CheckedEvent}
use Rattle.fed_room_contract.specs.declared.input.Input.{Input}
use Rattle.fed_room_contract.specs.declared.input.Input.TheVariants.{Receive, Advance, Commit}
use Rattle.fed_hub_state.specs.KeptRoom.{KeptState}
use Rattle.fed_hub_rooms.specs.RoomHeld.{RoomHeld}

-- the event that comes by an input
abbrev pub received_by : Input → Option CheckedEvent
received_by (Receive event) = Some event
received_by Advance = None
received_by (Commit event) = None

-- those that came, in order
abbrev pub received : List Input → List CheckedEvent
received inputs = filter_map received_by inputs

-- the room at the place that a thread holds is there, and the events that came to it are those that the thread gave
abbrev pub IsGiven : List KeptState → RoomHeld → Type 0
IsGiven rooms held = IsSomeAnd (slice_get rooms held.room) (λ room. received room.inputs ≡ held.given)
