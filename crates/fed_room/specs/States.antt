-- The states of a room by the events that it has stored (Matrix, Server-Server API, "Checks performed on receipt of a PDU"; room version
-- 2, "State resolution"): after each event, before an event, and the current one.
use Rattle.std.specs.Prelude.{ℕ, zero, suc, List, Option, None, Some, length, map, if◌then◌else◌}
use Rattle.std.specs.FinMap as finite
use Rattle.fed_event.specs.Event.{Event}
use Rattle.fed_event.specs.Fields.{prev_events_of}
use Rattle.fed_room_contract.specs.declared.graph.Stored.{Stored}
use Rattle.fed_room_contract.specs.State.{StateMap}
use Rattle.fed_room_contract.specs.Graph.{id_of, stored_at}
use Rattle.fed_room_contract.specs.Room.{extremities_of}
use Rattle.fed_auth.specs.AuthState.{is_rejected, with_stored}
use Rattle.fed_resolve.specs.Resolution.{resolved_of}

-- The state after an event: the state before it with its own entry, where it is a state event, unless it was rejected. That of a
-- soft-failed one counts.
abbrev pub state_with : StateMap → Stored → StateMap
state_with before stored = if is_rejected stored then before else with_stored before stored

abbrev pub state_with_found : (Event → StateMap) → Option Stored → StateMap
state_with_found before None = finite.empty
state_with_found before (Some stored) = state_with (before stored.event.event) stored

module _ (events : List Stored) where
  -- the state after the stored event of an id, by at most so many steps back to prev events
  abbrev pub after_within : ℕ → List ℕ → StateMap
  after_within zero id = finite.empty
  after_within (suc steps) id =
      state_with_found (λ event. resolved_of events (map (after_within steps) (prev_events_of event))) (stored_at events id)

  -- the state after it: no event has more steps behind it than there are events
  unfoldable pub state_after : List ℕ → StateMap
  state_after id = after_within (length events) id

  -- the states after some events, resolved
  unfoldable pub resolved_after : List (List ℕ) → StateMap
  resolved_after ids = resolved_of events (map state_after ids)

  -- the state before an event: the states after its prev events, resolved
  abbrev pub state_before : Event → StateMap
  state_before event = resolved_after (prev_events_of event)

  -- the current state: the states after the forward extremities, resolved
  abbrev pub current_state : StateMap
  current_state = resolved_after (extremities_of events)

-- the state after each event, in the order of storing
abbrev pub states_after : List Stored → List StateMap
states_after events = map (λ stored. state_after events (id_of stored)) events
