-- What a room is, and what becomes of it (Matrix, Server-Server API, "PDUs" and "Checks performed on receipt of a PDU"): the events that are
-- stored, those that wait for events which they name, and a count of those that could not wait.
use Rattle.std.specs.Prelude.{ℕ, ◌+◌, ◌-◌, ◌^◌, List, [], ◌∷◌, ◌++◌, Bool, true, false, ◌&&◌, ◌||◌, not, Option, Some, None, filter, find, length, map, min, nat_lt, if◌then◌else◌}
use Rattle.std.specs.List.{list_any, list_all}
use Rattle.std.specs.Str.{bytes_eq}
use Rattle.fed_event.specs.Event.{Event}
use Rattle.fed_redaction.specs.declared.version.Version.{Version}
use Rattle.fed_redaction.specs.declared.version.Version.TheVariants.{V10}
use Rattle.fed_event.specs.EventId.{event_id_of}
use Rattle.fed_event.specs.Fields.{prev_events_of}
use Rattle.fed_event.specs.Checked.{CheckedEvent}
use Rattle.fed_room_contract.specs.declared.rule.Rule.{Rule}
use Rattle.fed_room_contract.specs.declared.verdict.Verdict.{Verdict}
use Rattle.fed_room_contract.specs.declared.verdict.Verdict.TheVariants.{Accepted, Rejected, SoftFailed}
use Rattle.fed_room_contract.specs.declared.receipt.Receipt.{Receipt}
use Rattle.fed_room_contract.specs.declared.receipt.Receipt.TheVariants as receipt
use Rattle.fed_room_contract.specs.declared.graph.Stored.{Stored}
use Rattle.fed_room_contract.specs.State.{StateMap}
use Rattle.fed_room_contract.specs.Graph.{id_of, is_stored, is_ready}
use Rattle.fed_room_contract.specs.Draft.{DraftFields}

pub record RoomState : Type 0 where
  pub stored : List Stored
  pub waiting : List CheckedEvent
  pub dropped : ℕ

-- what a room goes by, given the events that it has stored: its verdict on an event, the state before an event, the current state, and
-- the event that it makes of a draft, but for its hash and signature
pub record Rules : Type 0 where
  pub decide : List Stored → CheckedEvent → Verdict
  pub before : List Stored → Event → StateMap
  pub current : List Stored → StateMap
  pub parts : List Stored → DraftFields → Event

-- the version of a room: that of its first event, and 10 where it has none
abbrev pub version_of : List Stored → Version
version_of [] = V10
version_of (first ∷ later) = first.event.event.version

-- a room in which nothing is stored and nothing waits
abbrev pub empty_room : RoomState
empty_room = record { stored = []; waiting = []; dropped = 0 }

-- ---- ids

abbrev pub event_id : CheckedEvent → List ℕ
event_id event = event_id_of event.event

abbrev pub is_of_id : List ℕ → CheckedEvent → Bool
is_of_id id event = bytes_eq (event_id event) id

abbrev pub is_waiting : List CheckedEvent → List ℕ → Bool
is_waiting waiting id = list_any (is_of_id id) waiting

abbrev pub is_known : RoomState → List ℕ → Bool
is_known room id = is_stored room.stored id || is_waiting room.waiting id

-- no event waits that is stored
abbrev pub none_stored : List Stored → List CheckedEvent → Bool
none_stored stored waiting = list_all (λ event. not (is_stored stored (event_id event))) waiting

abbrev pub without : List ℕ → List CheckedEvent → List CheckedEvent
without id waiting = filter (λ event. not (is_of_id id event)) waiting

-- ---- what becomes of a room

-- the event is stored with this verdict, and waits no longer if it did
abbrev pub with_stored : RoomState → CheckedEvent → Verdict → RoomState
with_stored room event verdict = record {
  stored = room.stored ++ (record { event = event; verdict = verdict }) ∷ [];
  waiting = without (event_id event) room.waiting;
  dropped = room.dropped;
}

-- the event waits behind those that do
abbrev pub with_waiting : RoomState → CheckedEvent → RoomState
with_waiting room event = record { stored = room.stored; waiting = room.waiting ++ event ∷ []; dropped = room.dropped }

-- one more was dropped; the count stays at the greatest `u64`
abbrev pub with_dropped : RoomState → RoomState
with_dropped room = record { stored = room.stored; waiting = room.waiting; dropped = min (room.dropped + 1) (2 ^ 64 - 1) }

-- how many events may wait
abbrev pub most_waiting : ℕ
most_waiting = 1000

-- an event that is known is let be; one that is ready is stored; another one waits, where there is room
abbrev pub receipt_of : Rules → RoomState → CheckedEvent → Receipt
receipt_of rules room event =
    if is_known room (event_id event) then receipt.Known
    else if is_ready room.stored event.event then receipt.Stored (rules.decide room.stored event)
    else if nat_lt (length room.waiting) most_waiting then receipt.Waiting
    else receipt.Dropped

abbrev pub after_receipt : RoomState → CheckedEvent → Receipt → RoomState
after_receipt room event (receipt.Stored verdict) = with_stored room event verdict
after_receipt room event receipt.Known = room
after_receipt room event receipt.Waiting = with_waiting room event
after_receipt room event receipt.Dropped = with_dropped room

-- the waiting event that came first among those that are ready
abbrev pub first_ready : RoomState → Option CheckedEvent
first_ready room = find (λ event. is_ready room.stored event.event) room.waiting

abbrev pub with_ready : Rules → RoomState → Option CheckedEvent → RoomState
with_ready rules room None = room
with_ready rules room (Some event) = with_stored room event (rules.decide room.stored event)

-- that one is stored
abbrev pub advanced : Rules → RoomState → RoomState
advanced rules room = with_ready rules room (first_ready room)

-- an event is stored as accepted, unless its id is stored
abbrev pub committed : RoomState → CheckedEvent → RoomState
committed room event = if is_stored room.stored (event_id event) then room else with_stored room event Accepted

-- ---- the forward extremities

abbrev pub is_accepted : Verdict → Bool
is_accepted Accepted = true
is_accepted (Rejected rule) = false
is_accepted (SoftFailed rule) = false

-- an event that is rejected: neither accepted nor soft-failed
abbrev pub is_rejection : Verdict → Bool
is_rejection Accepted = false
is_rejection (Rejected rule) = true
is_rejection (SoftFailed rule) = false

-- the rule by which an event fails
abbrev pub rule_of : Verdict → Option Rule
rule_of Accepted = None
rule_of (Rejected rule) = Some rule
rule_of (SoftFailed rule) = Some rule

-- an event that names the event of this id as a prev event
abbrev pub names : Event → List ℕ → Bool
names event id = list_any (λ prev. bytes_eq prev id) (prev_events_of event)

-- an accepted event that follows the event of this id
abbrev pub follows : List ℕ → Stored → Bool
follows id stored = is_accepted stored.verdict && names stored.event.event id

-- the accepted events that no accepted event follows, in the order of storing
abbrev pub extremities_of : List Stored → List (List ℕ)
extremities_of events = map id_of (filter (λ stored. is_accepted stored.verdict && not (list_any (follows (id_of stored)) events)) events)
