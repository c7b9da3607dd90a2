-- What several states of a room disagree on (Matrix, room version 2, "State resolution", "Definitions").
use Rattle.std.specs.Prelude.{ℕ, List, [], ◌∷◌, Bool, not, ◌&&◌, ◌||◌, bytes_eq}
use Rattle.std.specs.List.{list_any, list_all}
use Rattle.std.specs.Option.{option_eq}
use Rattle.std.specs.FinMap as finite
use Rattle.fed_room_contract.specs.declared.graph.Stored.{Stored}
use Rattle.fed_room_contract.specs.State.{StateKey, StateMap}
use Rattle.fed_resolve.specs.Chain.{is_entry_at, is_in_full_chain}

-- all states have at the key what this one has
abbrev pub agree_with : StateMap → List StateMap → StateKey → Bool
agree_with state states key = list_all (λ other. option_eq bytes_eq (finite.get other key) (finite.get state key)) states

-- the unconflicted state: the entries that all states have
abbrev pub unconflicted : List StateMap → StateMap
unconflicted [] = finite.empty
unconflicted (state ∷ states) = finite.retain_keys state (agree_with state states)

-- the conflicted state set: the events that a state has at keys at which not all agree
abbrev pub is_conflicted : List Stored → List StateMap → ℕ → Bool
is_conflicted events states place =
    list_any (λ state. list_any (λ entry. not (agree_with state states entry.0) && is_entry_at events place entry.1) (finite.entries state)) states

-- the auth difference: the events of some but not all of the full auth chains
abbrev pub is_in_difference : List Stored → List StateMap → ℕ → Bool
is_in_difference events states place =
    list_any (λ state. is_in_full_chain events state place) states && not (list_all (λ state. is_in_full_chain events state place) states)

-- the full conflicted set: both together
abbrev pub is_full_conflicted : List Stored → List StateMap → ℕ → Bool
is_full_conflicted events states place = is_conflicted events states place || is_in_difference events states place
