-- Room in the wires of the rooms, by the credits in the hands of the ends that send.
use Rattle.std.specs.Prelude.{◌≡◌, ◌<◌, ◌≤◌, ◌==◌, ℕ, Bool, false, List, [], ◌∷◌, filter, length, Option, Some, None, slice_get}
use Rattle.fed_event.specs.Checked.{CheckedEvent}
use Rattle.fed_wires.specs.SendEnd.{with_room}
use Rattle.fed_wires.specs.WireId.{WireId}
use Rattle.fed_hub_serving.specs.declared.bound.Bound.{Bound}
use Rattle.fed_hub_serving.specs.declared.full_wire.FullRoom.{FullRoom}
use Rattle.fed_hub_serving.specs.declared.full_wire.FullWire.{FullWire}
use Rattle.fed_hub_serving.specs.declared.judged_request.JudgedRequest.{JudgedRequest}
use Rattle.fed_hub_serving.specs.declared.room_wire.RoomWire.{RoomWire}

-- so many credits are in hand; nothing was sent, and the wire has ended if it had
abbrev pub with_credits : RoomWire → ℕ → RoomWire
with_credits wire room = record { end = with_room wire.end room; ended = wire.ended }

-- the same wires, with as many credits in hand or more
pub data HaveTakenIn : List RoomWire → List RoomWire → Type 0 where
  none : HaveTakenIn [] []
  one_more : (wire : RoomWire) (room : ℕ) (old new : List RoomWire) → wire.end.room ≤ room → HaveTakenIn old new → HaveTakenIn (wire ∷ old) (with_credits wire room ∷ new)

-- whether an event is for the room at place k, and how many of these are
abbrev pub is_at : ℕ → Option ℕ → Bool
is_at k None = false
is_at k (Some place) = place == k

abbrev pub is_bound_for : ℕ → Bound → Bool
is_bound_for k b = is_at k b.room

abbrev pub count_for : ℕ → List Bound → ℕ
count_for k bound = length (filter (is_bound_for k) bound)

-- the wires to these rooms have room for all of these events that are for the room, unless they have ended
abbrev pub HaveRoomTo : (ℕ → Type 0) → List Bound → List RoomWire → Type 0
HaveRoomTo To bound wires = (k : ℕ) (wire : RoomWire) → To k → slice_get wires k ≡ Some wire → wire.ended ≡ None → count_for k bound ≤ wire.end.room

-- all of them have
abbrev pub HaveRoom : List Bound → List RoomWire → Type 0
HaveRoom bound wires = HaveRoomTo (λ _. Unit {0}) bound wires

-- the wire to this room has not ended and has not as many credits in hand as events are for the room; what shows it is of that wire and of so many
pub record WasFull (bound : List Bound) (wires : List RoomWire) (full : FullRoom) : Type 0 where
  pub wire : RoomWire
  pub here : slice_get wires full.room ≡ Some wire
  pub runs : wire.ended ≡ None
  pub few : wire.end.room < count_for full.room bound
  pub shown : full.no_room ≡ record { wire = wire.end.wire; count = count_for full.room bound }

-- the same, of the names of the wires and of a request that comes back as it was judged
pub record IsFullOf (names : List (WireId CheckedEvent)) (judged : JudgedRequest) (full : FullWire) : Type 0 where
  pub same : full.judged ≡ judged
  pub within : full.room < length names
  pub wire : slice_get names full.room ≡ Some full.no_room.wire
  pub count : full.no_room.count ≡ count_for full.room judged.bound.items
