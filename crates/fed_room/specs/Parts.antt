-- The event that is made of a draft, before it has its hash and its signature (Matrix, room version 10, "Event format").
use Rattle.std.specs.Prelude.{ℕ, ℤ, pos, List, [], Option, Some, None, map, codes}
use Rattle.serde_json.specs.Data.{Data, unsigned, number, string, array, object, no_members, member}
use Rattle.serde_json.specs.Find.{of_integer}
use Rattle.serde_json.specs.View.{items_of}
use Rattle.fed_json.specs.Editing.{with_member}
use Rattle.fed_redaction.specs.declared.version.Version.{Version}
use Rattle.fed_event.specs.Event.{Event, event_in}
use Rattle.fed_room_contract.specs.Draft.{DraftFields}

-- what an event has of its room: the version, the ids of the events that it names, and its depth
pub record EventLinks : Type 0 where
  pub version : Version
  pub auth_events : List (List ℕ)
  pub prev_events : List (List ℕ)
  pub depth : ℤ

-- it names no events
abbrev pub no_links : Version → EventLinks
no_links version = record { version = version; auth_events = []; prev_events = []; depth = pos 1 }

-- an array of ids
abbrev pub array_of : List (List ℕ) → Data
array_of ids = array (items_of (map (λ id. string id) ids))

-- the fields that every event has
abbrev pub fields_of : EventLinks → DraftFields → Data
fields_of links draft = object (
    member (codes "auth_events") (array_of links.auth_events) (
    member (codes "content") draft.content (
    member (codes "depth") (number (of_integer links.depth)) (
    member (codes "origin_server_ts") (number (unsigned draft.at_ms)) (
    member (codes "prev_events") (array_of links.prev_events) (
    member (codes "room_id") (string draft.room) (
    member (codes "sender") (string draft.sender) (
    member (codes "type") (string draft.kind) no_members))))))))

-- with a state key, of a state event
abbrev pub with_state_key : Option (List ℕ) → Data → Data
with_state_key None event = event
with_state_key (Some key) event = with_member (codes "state_key") (string key) event

abbrev pub parts_of : EventLinks → DraftFields → Event
parts_of links draft = event_in links.version (with_state_key draft.state_key (fields_of links draft))
