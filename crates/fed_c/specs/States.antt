-- States of a room as JSON arrays of ids give them (Matrix, Server-Server API, "PDUs"; room version 2, "State resolution").
use Rattle.std.specs.Prelude.{List, [], ◌∷◌, Bool, false, not, ◌&&◌, ◌||◌, bytes_eq, is_some, is_ok, if◌then◌else◌, Option, option_map, option_and_then, Result, Ok, Err}
use Rattle.std.specs.List.{list_any, list_all, filter_map}
use Rattle.std.specs.Option.{option_eq}
use Rattle.std.specs.Result.{result_ok}
use Rattle.std.specs.FinMap as finite
use Rattle.serde_json.specs.Data.{Data}
use Rattle.serde_json.specs.Find.{as_str}
use Rattle.fed_json.specs.JsonRef.{as_items}
use Rattle.fed_redaction.specs.EventId.{event_id_of}
use Rattle.fed_event.specs.Event.{Event}
use Rattle.fed_event.specs.Fields.{kind_of, state_key_of}
use Rattle.fed_room_contract.specs.declared.graph.Stored.{Stored}
use Rattle.fed_room_contract.specs.State.{StateMap}
use Rattle.fed_room_contract.specs.Graph.{stored_at}
use Rattle.fed_auth.specs.AuthState.{with_id_at}
use Rattle.fed_c.specs.declared.status.Status.{Status}
use Rattle.fed_c.specs.declared.status.Status.TheVariants.{BadState}
use Rattle.fed_c.specs.Results.{and_then, or_refusal}

-- of one type and state key
abbrev pub are_alike : Event → Event → Bool
are_alike one other = bytes_eq (kind_of one) (kind_of other) && option_eq bytes_eq (state_key_of one) (state_key_of other)

abbrev pub has_double : List Event → Bool
has_double [] = false
has_double (one ∷ others) = list_any (are_alike one) others || has_double others

-- state events, no two of one type and state key
abbrev pub is_state : List Event → Bool
is_state events = list_all (λ event. is_some (state_key_of event)) events && not (has_double events)

-- a state with these events
abbrev pub with_events : StateMap → List Event → StateMap
with_events state [] = state
with_events state (event ∷ events) = with_events (with_id_at state (kind_of event) (state_key_of event) (event_id_of event)) events

-- the state that events make
abbrev pub made_of : List Event → Result StateMap Status
made_of events = if is_state events then Ok (with_events finite.empty events) else Err BadState

-- the event that an id names
abbrev pub named : List Stored → Data → Option Event
named events id = option_map (λ stored. stored.event.event) (option_and_then (stored_at events) (as_str id))

-- the state of these ids, where each names an event
abbrev pub state_of : List Stored → List Data → Result StateMap Status
state_of events ids = if list_all (λ id. is_some (named events id)) ids then made_of (filter_map (named events) ids) else Err BadState

abbrev pub state_in : List Stored → Data → Result StateMap Status
state_in events value = and_then (or_refusal BadState (as_items value)) (state_of events)

-- some of them, each an array of ids
abbrev pub states_of : List Stored → List Data → Result (List StateMap) Status
states_of events values =
    if list_all (λ value. is_ok (state_in events value)) values then Ok (filter_map (λ value. result_ok (state_in events value)) values) else Err BadState

abbrev pub states_in : List Stored → Data → Result (List StateMap) Status
states_in events value = and_then (or_refusal BadState (as_items value)) (states_of events)
