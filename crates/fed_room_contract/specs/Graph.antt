-- Events that are stored, each with its verdict (Matrix, Server-Server API, "PDUs": events form a graph by the events that they name), found
-- by their ids. By auth events alone they form a graph too (room version 2, "State resolution", auth chains), of which a room's graph is one.
use Rattle.std.specs.Prelude.{◌≡◌, ℕ, List, [], ◌∷◌, ◌++◌, Bool, true, false, Option, None, Some, find, position, slice_get}
use Rattle.std.specs.List.{list_any, list_all, filter_map}
use Rattle.std.specs.Str.{bytes_eq}
use Rattle.fed_event.specs.Event.{Event}
use Rattle.fed_event.specs.EventId.{event_id_of}
use Rattle.fed_event.specs.Fields.{auth_events_of, prev_events_of}
use Rattle.fed_room_contract.specs.declared.graph.Stored.{Stored}

abbrev pub id_of : Stored → List ℕ
id_of stored = event_id_of stored.event.event

abbrev pub has_id : List ℕ → Stored → Bool
has_id id stored = bytes_eq (id_of stored) id

abbrev pub stored_at : List Stored → List ℕ → Option Stored
stored_at events id = find (has_id id) events

abbrev pub is_stored : List Stored → List ℕ → Bool
is_stored events id = list_any (has_id id) events

-- where the events of some ids are stored, of those that are
abbrev pub places_of : List Stored → List (List ℕ) → List ℕ
places_of events ids = filter_map (λ id. position (has_id id) events) ids

-- where the auth events of an event are stored, in the order in which it names them
abbrev pub auth_links : List Stored → Stored → List ℕ
auth_links events stored = places_of events (auth_events_of stored.event.event)

-- the same of the event at a place; nothing where there is none
abbrev pub links_in : (Stored → List ℕ) → Option Stored → List ℕ
links_in links None = []
links_in links (Some stored) = links stored

abbrev pub auth_places_at : List Stored → ℕ → List ℕ
auth_places_at events place = links_in (auth_links events) (slice_get events place)

-- the events that this one names
abbrev pub named_by : Event → List (List ℕ)
named_by event = prev_events_of event ++ auth_events_of event

-- all that it names is stored
abbrev pub is_ready : List Stored → Event → Bool
is_ready events event = list_all (is_stored events) (named_by event)

-- all its auth events are stored
abbrev pub has_auths : List Stored → Event → Bool
has_auths events event = list_all (is_stored events) (auth_events_of event)

-- an event that comes next: it is another one than those before it, and names only these
pub record IsNext (before : List Stored) (next : Stored) : Type 0 where
  pub new : is_stored before (id_of next) ≡ false
  pub ready : is_ready before next.event.event ≡ true

-- each event comes next after those before it
pub record IsGraph (events : List Stored) : Type 0 where
  pub each : (before : List Stored) (next : Stored) (after : List Stored) → events ≡ before ++ next ∷ after → IsNext before next

-- the same where auth events alone count: it is another one, and its auth events are among them
pub record IsAuthNext (before : List Stored) (next : Stored) : Type 0 where
  pub new : is_stored before (id_of next) ≡ false
  pub auths : has_auths before next.event.event ≡ true

-- each event comes next after those before it, as far as auth events count
pub record IsAuthGraph (events : List Stored) : Type 0 where
  pub each : (before : List Stored) (next : Stored) (after : List Stored) → events ≡ before ++ next ∷ after → IsAuthNext before next
