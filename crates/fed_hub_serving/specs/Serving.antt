-- An inbox under its lock, with the history of the requests that it answered and the wires of the rooms.
use Rattle.std.specs.Prelude.{◌≡◌, ℕ, List, [], Bool, true, Option, Some, unwrap_or, map, length, slice_get, refl}
use Rattle.std.specs.Coded.{Coded, code_by, coded×, coded_ℕ, coded_bool, coded_list, coded_option}
use Rattle.fed_event.specs.Checked.{CheckedEvent}
use Rattle.fed_keys.specs.Keys.{Checks}
use Rattle.fed_inbox.specs.History.{Point, IsHistory}
use Rattle.fed_inbox.specs.Inbox.{InboxState, inbox_code}
use Rattle.fed_inbox.specs.Receiver.{ReceiverState, IsInboxOf}
use Rattle.fed_wires.specs.WireId.{WireId}
use Rattle.fed_hub_serving.specs.declared.end_place.EndPlace.{EndPlace}
use Rattle.fed_hub_serving.specs.declared.room_wire.RoomWire.{RoomWire}
use Rattle.fed_hub_serving.specs.declared.room_wire.EndedWire.{EndedWire}
use Rattle.fed_hub_serving.specs.Brought.{end_place, sent_to}
use Rattle.fed_hub_serving.specs.Points.{point_code}
use Rattle.fed_hub_serving.specs.Wires.{WiresState, AreSent}

-- the inbox, the history, where each room's wire ended, if it has, and whether all were ended
pub record ServingState : Type 0 where
  pub inbox : InboxState
  pub points : List Point
  pub ended : List (Option EndPlace)
  pub is_shut : Bool

abbrev pub end_place_code : Coded EndPlace
end_place_code = code_by (ℕ × ℕ) (coded× coded_ℕ coded_ℕ) (λ p. (p.points, p.events)) (λ p. record { points = p.0; events = p.1 }) (λ _. refl)

abbrev pub serving_code : Coded ServingState
serving_code =
    code_by (InboxState × (List Point × (List (Option EndPlace) × Bool)))
    (coded× inbox_code (coded× (coded_list point_code) (coded× (coded_list (coded_option end_place_code)) coded_bool)))
    (λ s. (s.inbox, (s.points, (s.ended, s.is_shut))))
    (λ p. record { inbox = p.0; points = p.1.0; ended = p.1.1.0; is_shut = p.1.1.1 })
    (λ _. refl)

-- where the wires ended
abbrev pub ended_in : WiresState → List (Option EndPlace)
ended_in w = map (λ (wire : RoomWire). wire.ended) w.wires

-- it is the inbox of the server after this history, which went on from `beginning`, and over each wire went what it brought for the room
pub record IsServing (names : List (WireId CheckedEvent)) (known : List (List ℕ)) (checks : Checks) (receiver : ReceiverState) (beginning : InboxState) (points : List Point) (inbox : InboxState) (w : WiresState) : Type 0 where
  pub history : IsHistory checks beginning points inbox
  pub server : IsInboxOf receiver inbox
  pub sent : AreSent names known points w

-- it is the inbox after its history
abbrev pub IsKeptFrom : Checks → InboxState → ServingState → Type 0
IsKeptFrom checks beginning s = IsHistory checks beginning s.points s.inbox

-- every room's wire has ended, here where it has not ended before
abbrev pub with_rooms_ended : ServingState → ServingState
with_rooms_ended s = record {
  inbox = s.inbox;
  points = s.points;
  ended = map (λ (ended : Option EndPlace). Some (unwrap_or ended (end_place (length s.points) 0))) s.ended;
  is_shut = true;
}

-- what is left of the wire of the room at place k: what went over it, and where it ended
pub record IsLeft (names : List (WireId CheckedEvent)) (known : List (List ℕ)) (s : ServingState) (k : ℕ) (wire : EndedWire) : Type 0 where
  pub name : slice_get names k ≡ Some wire.pass.wire
  pub sent : wire.pass.sent ≡ sent_to known k s.points (Some wire.ended)
  pub place : slice_get s.ended k ≡ Some (Some wire.ended)

-- of each wire
pub record AreLeft (names : List (WireId CheckedEvent)) (known : List (List ℕ)) (s : ServingState) (wires : List EndedWire) : Type 0 where
  pub count : length wires ≡ length names
  pub each : (k : ℕ) (wire : EndedWire) → slice_get wires k ≡ Some wire → IsLeft names known s k wire
