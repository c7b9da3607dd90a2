-- The wires of the rooms of a server that serves.
use Rattle.std.specs.Prelude.{◌≡◌, ◌⊎◌, ℕ, List, [], ◌++◌, Bool, true, false, Option, Some, None, unwrap_or, map, length, slice_get}
use Rattle.fed_event.specs.Checked.{CheckedEvent}
use Rattle.fed_inbox.specs.History.{Point}
use Rattle.fed_wires.specs.SendEnd.{Sender}
use Rattle.fed_wires.specs.WireId.{WireId}
use Rattle.fed_hub_serving.specs.declared.end_place.EndPlace.{EndPlace}
use Rattle.fed_hub_serving.specs.declared.room_wire.RoomWire.{RoomWire}
use Rattle.fed_hub_serving.specs.declared.room_wire.EndedWire.{EndedWire}
use Rattle.fed_hub_serving.specs.Brought.{sent_to, IsWithin}

-- a wire that has not ended
abbrev pub running : Sender CheckedEvent → RoomWire
running end = record { end = end; ended = None }

-- what it was, of a wire that has ended
abbrev pub ended_of : EndedWire → RoomWire
ended_of wire = record { end = wire.pass; ended = Some wire.ended }

-- the wire ends, at this place where it has not ended before
abbrev pub ended_at : EndPlace → RoomWire → RoomWire
ended_at place wire = record { end = wire.end; ended = Some (unwrap_or wire.ended place) }

-- the wires, and whether all were ended
pub record WiresState : Type 0 where
  pub wires : List RoomWire
  pub is_shut : Bool

abbrev pub all_ended : EndPlace → WiresState → WiresState
all_ended place w = record { wires = map (ended_at place) w.wires; is_shut = true }

-- Over the wire of the room at place k went just the events that the history brought for the room, up to where the wire ended: where all were
-- ended, or at the first event that came back.
pub record HasSent (names : List (WireId CheckedEvent)) (known : List (List ℕ)) (is_shut : Bool) (points : List Point) (k : ℕ) (wire : RoomWire) : Type 0 where
  pub name : slice_get names k ≡ Some wire.end.wire
  pub sent : wire.end.sent ≡ sent_to known k points wire.ended
  pub runs : wire.ended ≡ None → (is_shut ≡ false) × (wire.end.returned ≡ 0)
  pub ended : (place : EndPlace) → wire.ended ≡ Some place → IsWithin points place × ((is_shut ≡ true) ⊎ (wire.end.returned ≡ 1))

-- over each wire
pub record AreSent (names : List (WireId CheckedEvent)) (known : List (List ℕ)) (points : List Point) (w : WiresState) : Type 0 where
  pub count : length w.wires ≡ length names
  pub each : (k : ℕ) (wire : RoomWire) → slice_get w.wires k ≡ Some wire → HasSent names known w.is_shut points k wire

-- the wires of the ends that send, and that nothing went over them or came back
abbrev pub names_of : List (Sender CheckedEvent) → List (WireId CheckedEvent)
names_of ends = map (λ (end : Sender CheckedEvent). end.wire) ends

abbrev pub AreUnused : List (Sender CheckedEvent) → Type 0
AreUnused ends = (k : ℕ) (end : Sender CheckedEvent) → slice_get ends k ≡ Some end → (end.sent ≡ []) × (end.returned ≡ 0)
