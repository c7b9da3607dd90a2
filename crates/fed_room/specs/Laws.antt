-- The statements of the laws of rooms: the states after and before events, and what a new event names, as relations.
use Rattle.std.specs.Prelude.{◌≡◌, ℕ, ℤ, pos, ◌≤ℤ◌, List, [], ◌∷◌, true, false, None, Some, All, Contains, IsSorted, IsPermutation, map, take}
use Rattle.fed_event.specs.Event.{Event}
use Rattle.fed_event.specs.Fields.{prev_events_of}
use Rattle.fed_room_contract.specs.declared.graph.Stored.{Stored}
use Rattle.fed_room_contract.specs.Graph.{id_of, stored_at}
use Rattle.fed_room_contract.specs.Room.{extremities_of}
use Rattle.fed_room_contract.specs.State.{StateMap, with_entry}
use Rattle.fed_auth.specs.AuthState.{kind_in, state_key_in, is_rejected}
use Rattle.fed_resolve.specs.Resolution.{resolved_of}
use Rattle.fed_room.specs.Links.{depth_at, tip_cmp, next_depth}

-- ---- states (Matrix, Server-Server API, "Checks performed on receipt of a PDU"; room version 2, "State resolution")

-- the state after a stored event is the state before it, with the event's own entry laid over it where it is a state event and was not
-- rejected
pub record IsAfter (before : StateMap) (stored : Stored) (after : StateMap) : Type 0 where
  pub rejected : is_rejected stored ≡ true → after ≡ before
  pub message : state_key_in stored ≡ None → after ≡ before
  pub laid_over : (key : List ℕ) → is_rejected stored ≡ false → state_key_in stored ≡ Some key → after ≡ with_entry before (kind_in stored) key (id_of stored)

-- the state before an event is what the states after its prev events resolve to
abbrev pub before_by : List Stored → (List ℕ → StateMap) → Event → StateMap
before_by events after event = resolved_of events (map after (prev_events_of event))

-- these are the states after the stored events, by their ids
pub record AreStatesAfter (events : List Stored) (after : List ℕ → StateMap) : Type 0 where
  pub each : (stored : Stored) → stored_at events (id_of stored) ≡ Some stored → IsAfter (before_by events after stored.event.event) stored (after (id_of stored))

-- ---- what a new event names (Server-Server API, "PDUs"; room version 10, "Event format")

-- ids by greater depth, then smaller id
pub record AreByDepth (events : List Stored) (ids sorted : List (List ℕ)) : Type 0 where
  pub same : IsPermutation ids sorted
  pub in_order : IsSorted (tip_cmp events) sorted

-- the forward extremities in this order, at most 20
pub record ArePrevEvents (events : List Stored) (ids : List (List ℕ)) : Type 0 where
  pub sorted : List (List ℕ)
  pub by_depth : AreByDepth events (extremities_of events) sorted
  pub first : ids ≡ take 20 sorted

-- none of these has a greater depth
pub record IsDeepest (events : List Stored) (ids : List (List ℕ)) (deepest : List ℕ) : Type 0 where
  pub among : Contains ids deepest
  pub greatest : All (λ id. depth_at events id ≤ℤ depth_at events deepest) ids

-- one more than the greatest depth of the forward extremities, of which these are the ids; 1 without
abbrev pub IsDepthAfter : List Stored → List (List ℕ) → ℤ → Type 0
IsDepthAfter events [] depth = depth ≡ pos 1
IsDepthAfter events (id ∷ ids) depth = (deepest : List ℕ) × (IsDeepest events (id ∷ ids) deepest × (depth ≡ next_depth (depth_at events deepest)))
