-- The resolved state of several states of a room (Matrix, room version 2, "State resolution", "Algorithm").
use Rattle.std.specs.Prelude.{ℕ, List, [], ◌∷◌, Bool, not, ◌&&◌, ◌||◌, Option, codes, option_and_then}
use Rattle.std.specs.List.{list_any}
use Rattle.std.specs.FinMap as finite
use Rattle.fed_room_contract.specs.declared.graph.Stored.{Stored}
use Rattle.fed_room_contract.specs.State.{StateKey, StateMap, entry_at, with_entry}
use Rattle.fed_resolve.specs.Chain.{members, place_of, is_in_chain}
use Rattle.fed_resolve.specs.Conflict.{unconflicted, is_full_conflicted}
use Rattle.fed_resolve.specs.PowerOrder.{is_power_place, power_order}
use Rattle.fed_resolve.specs.Mainline.{mainline_order}
use Rattle.fed_resolve.specs.Checks.{checked}

-- the state with the entries of another one laid over it
abbrev pub with_entries : StateMap → List (StateKey × List ℕ) → StateMap
with_entries state [] = state
with_entries state (entry ∷ entries) = with_entries (with_entry state entry.0.0 entry.0.1 entry.1) entries

-- the power levels event of a state
abbrev pub levels_in : List Stored → StateMap → Option ℕ
levels_in events state = option_and_then (place_of events) (entry_at state (codes "m.room.power_levels") [])

module _ (events : List Stored) (states : List StateMap) where
  abbrev pub is_conflicted : ℕ → Bool
  is_conflicted = is_full_conflicted events states

  -- in the auth chain of a power event of the full conflicted set
  abbrev pub is_below_power : ℕ → Bool
  is_below_power place = list_any (λ p. is_power_place events p && is_in_chain events p place) (members events is_conflicted)

  -- the power events of the full conflicted set, and what of that set is in their auth chains
  abbrev pub is_power : ℕ → Bool
  is_power place = is_conflicted place && (is_power_place events place || is_below_power place)

  abbrev pub is_other : ℕ → Bool
  is_other place = is_conflicted place && not (is_power place)

  -- steps 1 and 2: the power events, in their order, are checked from the unconflicted state
  abbrev pub power_state : StateMap
  power_state = checked events (unconflicted states) (power_order events (members events is_power))

  -- the power levels event of that state
  abbrev pub levels_place : Option ℕ
  levels_place = levels_in events power_state

  -- steps 3 and 4: the others, in the mainline order of this, are checked from there
  abbrev pub checked_state : StateMap
  checked_state = checked events power_state (mainline_order events levels_place (members events is_other))

  -- step 5: the unconflicted state is laid over
  abbrev pub resolved_of : StateMap
  resolved_of = with_entries checked_state (finite.entries (unconflicted states))
