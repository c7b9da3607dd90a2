-- What states that are kept disagree on, for the clauses of private functions.
use Rattle.std.specs.Prelude.{◌≡◌, ◌++◌, ◌&&◌, ◌||◌, ℕ, List, Bool, true, false, not, Option, Some, None, map, option_and_then, bytes_eq, slice_get, if◌then◌else◌}
use Rattle.std.specs.List.{list_any, list_all, filter, filter_map}
use Rattle.std.specs.Option.{option_eq}
use Rattle.std.specs.FinMap as finite
use Rattle.fed_room_contract.specs.declared.graph.Stored.{Stored}
use Rattle.fed_room_contract.specs.State.{StateKey, StateMap}
use Rattle.fed_room_contract.specs.Steps.{state_at}
use Rattle.fed_auth.specs.AuthState.{stands_at}
use Rattle.fed_resolve.specs.Chain.{place_of, is_in_chains}
use Rattle.fed_resolve.specs.ChainParts.{is_marked}
use Rattle.fed_resolve.specs.ConflictParts.{has_key}
use Rattle.fed_resolve.specs.Order.{is_among}

-- the states at these places
abbrev pub at_places : List StateMap → List ℕ → List StateMap
at_places states places = map (state_at states) places

-- the states at these places have at a key what this one has
abbrev pub agree_at : List StateMap → StateMap → List ℕ → StateKey → Bool
agree_at states first others key = list_all (λ place. option_eq bytes_eq (finite.get (state_at states place) key) (finite.get first key)) others

-- of some entries those at whose keys they have not
abbrev pub disputed_of : List StateMap → StateMap → List ℕ → List (StateKey × List ℕ) → List (StateKey × List ℕ)
disputed_of states first others entries = filter (λ entry. not (agree_at states first others entry.0)) entries

-- a state has what another one has, but at the keys of some entries nothing
pub record IsWithout (whole : StateMap) (entries : List (StateKey × List ℕ)) (state : StateMap) : Type 0 where
  pub each : (key : StateKey) → finite.get state key ≡ (if has_key entries key then None else finite.get whole key)

-- the place of the event that a state has at the key of an entry
abbrev pub place_in : List Stored → StateMap → StateKey × List ℕ → Option ℕ
place_in events state entry = option_and_then (place_of events) (finite.get state entry.0)

-- the places of the events that a state has at the keys of some entries
abbrev pub own_places : List Stored → List (StateKey × List ℕ) → StateMap → List ℕ
own_places events entries state = filter_map (place_in events state) entries

-- and with them some that all states have
abbrev pub own_and_common : List Stored → List StateMap → List (StateKey × List ℕ) → List ℕ → ℕ → List ℕ
own_and_common events states entries common place = own_places events entries (state_at states place) ++ common

-- some of the states has the event there
abbrev pub is_own_of_some : List Stored → List StateMap → List (StateKey × List ℕ) → List ℕ → ℕ → Bool
is_own_of_some events states entries places q = list_any (λ place. is_among (own_places events entries (state_at states place)) q) places

-- in the auth chains of what is given for some of these, but not for all
abbrev pub is_between : List Stored → (ℕ → List ℕ) → List ℕ → ℕ → Bool
is_between events given places q =
    list_any (λ place. is_in_chains events (given place) q) places && not (list_all (λ place. is_in_chains events (given place) q) places)

abbrev pub is_conflict_of : List Stored → List StateMap → List (StateKey × List ℕ) → List ℕ → List ℕ → ℕ → Bool
is_conflict_of events states entries common places q =
    is_own_of_some events states entries places q || is_between events (own_and_common events states entries common) places q

-- no key is lost, and the one at which the event at a place stands is there
pub record HasKeyAt (events : List Stored) (place : ℕ) (before after : StateMap) : Type 0 where
  pub more : (key : StateKey) → finite.contains_key after key ≡ false → finite.contains_key before key ≡ false
  pub each : (stored : Stored) (key : StateKey) → slice_get events place ≡ Some stored → stands_at key.0 key.1 stored ≡ true → finite.contains_key after key ≡ true

-- no key is lost, and the keys at which events of a set stand are there
pub record HasKeysOf (events : List Stored) (marks : List Bool) (before after : StateMap) : Type 0 where
  pub more : (key : StateKey) → finite.contains_key after key ≡ false → finite.contains_key before key ≡ false
  pub each : (place : ℕ) (stored : Stored) (key : StateKey) → is_marked marks place ≡ true → slice_get events place ≡ Some stored → stands_at key.0 key.1 stored ≡ true
      → finite.contains_key after key ≡ true
