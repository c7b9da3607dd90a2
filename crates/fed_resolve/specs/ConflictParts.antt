-- What states agree on, for the clauses of private functions.
use Rattle.std.specs.Prelude.{◌≡◌, ℕ, List, Bool, not, ◌&&◌, Option, None, Some, bytes_eq, if◌then◌else◌}
use Rattle.std.specs.List.{list_any, list_all, filter_map}
use Rattle.std.specs.Option.{option_eq}
use Rattle.std.specs.FinMap as finite
use Rattle.std.specs.Ordering.{eq_by_cmp}
use Rattle.fed_room_contract.specs.declared.graph.Stored.{Stored}
use Rattle.fed_room_contract.specs.State.{StateKey, StateMap, key_cmp}
use Rattle.fed_resolve.specs.Chain.{place_of, is_entry_at, is_in_full_chain}
use Rattle.fed_resolve.specs.Conflict.{agree_with}

-- one of the entries is at the key
abbrev pub has_key : List (StateKey × List ℕ) → StateKey → Bool
has_key entries key = list_any (λ entry. eq_by_cmp key_cmp key entry.0) entries

-- a state has, of another one, what that has at the keys of some entries
pub record AreKept (whole : StateMap) (entries : List (StateKey × List ℕ)) (state : StateMap) : Type 0 where
  pub each : (key : StateKey) → finite.get state key ≡ (if has_key entries key then finite.get whole key else None)

abbrev pub place_of_entry : List Stored → StateKey × List ℕ → Option ℕ
place_of_entry events entry = place_of events entry.1

-- the places of the events of a state
abbrev pub places_of_state : List Stored → StateMap → List ℕ
places_of_state events state = filter_map (place_of_entry events) (finite.entries state)

-- this id is at a type and state key
abbrev pub has_id_at : List ℕ → List ℕ → List ℕ → StateMap → Bool
has_id_at kind key id state = option_eq bytes_eq (finite.get state (kind, key)) (Some id)

-- the place of the event of an entry that not all states have
abbrev pub disputed_place : List Stored → List StateMap → StateKey × List ℕ → Option ℕ
disputed_place events states entry = if list_all (has_id_at entry.0.0 entry.0.1 entry.1) states then None else place_of events entry.1

-- the place of the event of an entry that the unconflicted state has not
abbrev pub disputed_beside : List Stored → StateMap → StateKey × List ℕ → Option ℕ
disputed_beside events agreed entry = if has_id_at entry.0.0 entry.0.1 entry.1 agreed then None else place_of events entry.1

-- in the full auth chain of some state, and of every state
abbrev pub is_in_some : List Stored → List StateMap → ℕ → Bool
is_in_some events states place = list_any (λ state. is_in_full_chain events state place) states

abbrev pub is_in_every : List Stored → List StateMap → ℕ → Bool
is_in_every events states place = list_all (λ state. is_in_full_chain events state place) states

-- some of these states has the event at a key at which not all of those agree
abbrev pub is_disputed_in : List Stored → List StateMap → List StateMap → ℕ → Bool
is_disputed_in events states some place =
    list_any (λ state. list_any (λ entry. not (agree_with state states entry.0) && is_entry_at events place entry.1) (finite.entries state)) some
