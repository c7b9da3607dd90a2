-- A room that begins with some events (Matrix, Client-Server API, "Creation"; room versions 10 and 11).
use Rattle.std.specs.Prelude.{ℕ, ◌+◌, List, [], ◌∷◌, Bool, false, Option, None, Some, option_and_then, if◌then◌else◌, codes, bytes_eq}
use Rattle.serde_json.specs.Find.{as_str, get}
use Rattle.std.specs.List.{list_all}
use Rattle.fed_event.specs.Version.{name_of}
use Rattle.fed_event.specs.Event.{Event}
use Rattle.fed_event.specs.Tests.{holds}
use Rattle.fed_event.specs.Fields.{content_of, kind_of}
use Rattle.fed_event.specs.Checked.{CheckedEvent}
use Rattle.fed_room_contract.specs.declared.receipt.Receipt.{Receipt}
use Rattle.fed_room_contract.specs.declared.receipt.Receipt.TheVariants as receipt
use Rattle.fed_room_contract.specs.Room.{Rules, RoomState, empty_room, is_accepted, receipt_of, after_receipt}
use Rattle.fed_room.specs.declared.start_fault.StartFault.{StartFault}
use Rattle.fed_room.specs.declared.start_fault.StartFault.TheVariants.{Empty, NotCreate, Version, NotAccepted}

-- ---- the first event

abbrev pub is_create_event : Event → Bool
is_create_event event = bytes_eq (kind_of event) (codes "m.room.create")

-- the version that a create event names: one that names none is of version 1
abbrev pub version_in : Event → Option (List ℕ)
version_in create = option_and_then as_str (get (codes "room_version") (content_of create))

-- the event is one of the version of this name
abbrev pub is_of_version : List ℕ → CheckedEvent → Bool
is_of_version name event = bytes_eq (name_of event.event.version) name

-- the create event names a version, of which they all are
abbrev pub are_of_one_version : Event → List CheckedEvent → Bool
are_of_one_version create events = holds (λ name. list_all (is_of_version name) events) (version_in create)

-- why no room begins with a first event like that
abbrev pub first_fault_of : List CheckedEvent → Option StartFault
first_fault_of [] = Some Empty
first_fault_of (first ∷ others) =
    if is_create_event first.event then (if are_of_one_version first.event (first ∷ others) then None else Some Version) else Some NotCreate

-- ---- all events

-- it is stored, and accepted
abbrev pub is_taken : Receipt → Bool
is_taken (receipt.Stored verdict) = is_accepted verdict
is_taken receipt.Known = false
is_taken receipt.Waiting = false
is_taken receipt.Dropped = false

module _ (rules : Rules) where
  -- the room after these events came, one after another
  abbrev pub after_all : RoomState → List CheckedEvent → RoomState
  after_all room [] = room
  after_all room (event ∷ events) = after_all (after_receipt room event (receipt_of rules room event)) events

  -- the first of these events that is not taken, the first of them being at this place
  abbrev pub not_taken : ℕ → RoomState → List CheckedEvent → Option StartFault
  not_taken place room [] = None
  not_taken place room (event ∷ events) =
      if is_taken (receipt_of rules room event)
      then not_taken (place + 1) (after_receipt room event (receipt_of rules room event)) events
      else Some (NotAccepted place (receipt_of rules room event))

  abbrev pub or_not_taken : Option StartFault → List CheckedEvent → Option StartFault
  or_not_taken (Some fault) events = Some fault
  or_not_taken None events = not_taken 1 empty_room events

  -- why no room begins with these events: places are counted from 1
  abbrev pub start_fault_of : List CheckedEvent → Option StartFault
  start_fault_of events = or_not_taken (first_fault_of events) events
