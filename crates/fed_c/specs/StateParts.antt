-- States that are made event by event, and lists of states, for the clauses of private functions.
use Rattle.std.specs.Prelude.{ℕ, List, [], ◌∷◌, ◌++◌, is_some, if◌then◌else◌, Result, Ok, Err}
use Rattle.serde_json.specs.Data.{Data}
use Rattle.fed_redaction.specs.EventId.{event_id_of}
use Rattle.fed_event.specs.Event.{Event}
use Rattle.fed_event.specs.Fields.{kind_of, state_key_of}
use Rattle.fed_room_contract.specs.declared.graph.Stored.{Stored}
use Rattle.fed_room_contract.specs.State.{StateMap, entry_at, with_entry}
use Rattle.fed_c.specs.declared.status.Status.{Status}
use Rattle.fed_c.specs.declared.status.Status.TheVariants.{BadState}
use Rattle.fed_c.specs.Results.{and_then, or_refusal}
use Rattle.fed_c.specs.States.{named, state_in}

-- the state with this id at a type and state key where nothing holds yet
abbrev pub laid_at : StateMap → List ℕ → List ℕ → List ℕ → Result StateMap Status
laid_at state kind key id = if is_some (entry_at state kind key) then Err BadState else Ok (with_entry state kind key id)

-- with this event, which is a state event
abbrev pub laid : StateMap → Event → Result StateMap Status
laid state event = and_then (or_refusal BadState (state_key_of event)) (λ key. laid_at state (kind_of event) key (event_id_of event))

-- with these, one after another
abbrev pub laid_all : StateMap → List Event → Result StateMap Status
laid_all state [] = Ok state
laid_all state (event ∷ events) = and_then (laid state event) (λ after. laid_all after events)

-- with the events of these ids
abbrev pub state_from : List Stored → StateMap → List Data → Result StateMap Status
state_from events state [] = Ok state
state_from events state (id ∷ ids) =
    and_then (or_refusal BadState (named events id)) (λ event. and_then (laid state event) (λ after. state_from events after ids))

abbrev pub with_states : List Stored → List StateMap → List Data → Result (List StateMap) Status
with_states events states [] = Ok states
with_states events states (value ∷ values) = and_then (state_in events value) (λ state. with_states events (states ++ state ∷ []) values)
