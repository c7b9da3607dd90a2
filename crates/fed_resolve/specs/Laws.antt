-- The premises and conclusions of the laws of state resolution.
use Rattle.std.specs.Prelude.{◌≡◌, ◌≤◌, ℕ, List, [], ◌∷◌, true, Option, None, Some, All, Contains, slice_get}
use Rattle.std.specs.List.{Any}
use Rattle.std.specs.FinMap as finite
use Rattle.fed_room_contract.specs.declared.graph.Stored.{Stored}
use Rattle.fed_room_contract.specs.Graph.{id_of}
use Rattle.fed_room_contract.specs.State.{StateKey, StateMap}
use Rattle.fed_room_contract.specs.Lawful.{NamesStored}
use Rattle.fed_auth.specs.AuthState.{stands_at}
use Rattle.fed_resolve.specs.Conflict.{is_full_conflicted}
use Rattle.fed_resolve.specs.Order.{IsOrder}
use Rattle.fed_resolve.specs.PowerOrder.{has_chain_listed, is_before_in_power, power_order}
use Rattle.fed_resolve.specs.Mainline.{levels_auth, at_once, mainline, is_before_in_mainline, mainline_order}

-- each of the states names stored events alone
abbrev pub AllNameStored : List Stored → List StateMap → Type 0
AllNameStored events states = All (NamesStored events) states

-- one of the states has this id at the key
abbrev pub SomeStateHas : List StateMap → StateKey → List ℕ → Type 0
SomeStateHas states key id = Any (λ state. finite.get state key ≡ Some id) states

-- an event of the full conflicted set stands at the key and has this id
pub record IsOfConflict (events : List Stored) (states : List StateMap) (key : StateKey) (id : List ℕ) : Type 0 where
  pub place : ℕ
  pub stored : Stored
  pub conflicted : is_full_conflicted events states place ≡ true
  pub there : slice_get events place ≡ Some stored
  pub stands : stands_at key.0 key.1 stored ≡ true
  pub named : id_of stored ≡ id

-- the same states, in any order, and each any number of times
pub record AreSameStates (states others : List StateMap) : Type 0 where
  pub there : (state : StateMap) → Contains states state → Contains others state
  pub back : (state : StateMap) → Contains others state → Contains states state

-- ---- the mainline, without a count of steps

-- the mainline of a power levels event is it, the power levels event among its auth events, and so on, to one that has none among them
pub data IsMainline (events : List Stored) : Option ℕ → List ℕ → Type 0 where
  ended : IsMainline events None []
  further : (place : ℕ) (line : List ℕ) → IsMainline events (levels_auth events place) line → IsMainline events (Some place) (place ∷ line)

-- an event that is reached from another one in one or more steps, each to the power levels event among the auth events
pub data IsReachedByLevels (events : List Stored) : ℕ → ℕ → Type 0 where
  named : (place levels : ℕ) → levels_auth events place ≡ Some levels → IsReachedByLevels events place levels
  further : (place levels other : ℕ) → levels_auth events place ≡ Some levels → IsReachedByLevels events levels other → IsReachedByLevels events place other

-- the mainline event at an index is reached from the event at a place
pub record IsReachedIndex (events : List Stored) (line : List ℕ) (place index : ℕ) : Type 0 where
  pub levels : ℕ
  pub there : slice_get line index ≡ Some levels
  pub reached : IsReachedByLevels events place levels

pub record IsLeastReached (events : List Stored) (line : List ℕ) (place index : ℕ) : Type 0 where
  pub here : IsReachedIndex events line place index
  pub least : (other : ℕ) → IsReachedIndex events line place other → index ≤ other

-- the position of the event at a place: the least index that is reached from it, or infinite, which is `None`, where none is reached
abbrev pub IsPosition : List Stored → List ℕ → ℕ → Option ℕ → Type 0
IsPosition events line place None = (index : ℕ) → ¬ IsReachedIndex events line place index
IsPosition events line place (Some index) = IsLeastReached events line place index

-- the power order of some places
abbrev pub IsPowerOrder : List Stored → List ℕ → Type 0
IsPowerOrder events places = IsOrder (has_chain_listed events places) (is_before_in_power events) places (power_order events places)

-- the mainline order of some places, by a power levels event
abbrev pub IsMainlineOrder : List Stored → Option ℕ → List ℕ → Type 0
IsMainlineOrder events levels places = IsOrder at_once (is_before_in_mainline events (mainline events levels)) places (mainline_order events levels places)
