-- Iterative auth checks (Matrix, room version 2, "State resolution", "Definitions": "Iterative auth checks").
use Rattle.std.specs.Prelude.{ℕ, List, [], ◌∷◌, ⊤, Option, None, Some, if◌then◌else◌, find, is_some, slice_get, Result, Ok, Err}
use Rattle.std.specs.List.{filter_map}
use Rattle.fed_room_contract.specs.declared.rule.Rule.{Rule}
use Rattle.fed_room_contract.specs.declared.graph.Stored.{Stored}
use Rattle.fed_room_contract.specs.State.{StateKey, StateMap, entry_at, with_entry}
use Rattle.fed_room_contract.specs.Graph.{id_of}
use Rattle.fed_auth.specs.AuthState.{is_rejected, stands_at, with_stored}
use Rattle.fed_auth.specs.Selection.{selector_of, selection_keys}
use Rattle.fed_auth.specs.Allowed.{allowed_of}
use Rattle.fed_resolve.specs.Chain.{auths_at}

-- the state with the auth event of a key: none that was rejected
abbrev pub with_auth : StateMap → StateKey → Option Stored → StateMap
with_auth state key None = state
with_auth state key (Some auth) = if is_rejected auth then state else with_entry state key.0 key.1 (id_of auth)

-- The state with a key that it lacks taken from these auth events. The first that stands there alone counts.
abbrev pub with_key : List Stored → StateMap → Option StateKey → StateMap
with_key auths state None = state
with_key auths state (Some key) = if is_some (entry_at state key.0 key.1) then state else with_auth state key (find (stands_at key.0 key.1) auths)

abbrev pub with_keys : List Stored → StateMap → List (Option StateKey) → StateMap
with_keys auths state [] = state
with_keys auths state (key ∷ keys) = with_keys auths (with_key auths state key) keys

-- the state that the event at a place is checked by: what the rules need and the state lacks comes from its own auth events
abbrev pub completed : List Stored → StateMap → ℕ → Stored → StateMap
completed events state place stored =
    with_keys (filter_map (slice_get events) (auths_at events place)) state (selection_keys (selector_of stored.event.event))

-- an allowed state event is laid over the state
abbrev pub laid_over : StateMap → Stored → Result ⊤ Rule → StateMap
laid_over state stored (Ok done) = with_stored state stored
laid_over state stored (Err rule) = state

abbrev pub check_stored : List Stored → StateMap → ℕ → Option Stored → StateMap
check_stored events state place None = state
check_stored events state place (Some stored) = laid_over state stored (allowed_of events stored.event (completed events state place stored))

abbrev pub check : List Stored → StateMap → ℕ → StateMap
check events state place = check_stored events state place (slice_get events place)

-- the state after the events of a list, each checked against the state so far
abbrev pub checked : List Stored → StateMap → List ℕ → StateMap
checked events state [] = state
checked events state (place ∷ places) = checked events (check events state place) places
