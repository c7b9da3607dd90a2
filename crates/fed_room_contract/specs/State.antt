-- The state of a room (Matrix, Client-Server API, "Types of room events"; room version 2, "State resolution"): a finite map from the type
-- and the state key of a state event to its id.
use Rattle.std.specs.Prelude.{ℕ, List, Option}
use Rattle.std.specs.declared.cmp.Ordering.{Ordering}
use Rattle.std.specs.Coded.{Coded, coded×, coded_ℕ, coded_list}
use Rattle.std.specs.FinMap as finite
use Rattle.std.specs.Ordering.{nat_cmp, ordering_then}
use Rattle.std.specs.Cmp.Lexicographic.{slice_cmp}

-- a type and a state key
abbrev pub StateKey : Type 0
StateKey = List ℕ × List ℕ

-- the order of their bytes, by type first
abbrev pub key_cmp : StateKey → StateKey → Ordering
key_cmp a b = ordering_then (slice_cmp nat_cmp a.0 b.0) (slice_cmp nat_cmp a.1 b.1)

abbrev pub StateMap : Type 0
StateMap = finite.FinMap key_cmp (List ℕ)

abbrev pub state_code : Coded StateMap
state_code = finite.code (coded× (coded_list coded_ℕ) (coded_list coded_ℕ)) (coded_list coded_ℕ)

-- the id of the event that holds at a type and state key
abbrev pub entry_at : StateMap → List ℕ → List ℕ → Option (List ℕ)
entry_at state kind key = finite.get state (kind, key)

-- the state with this event at the type and state key, in the place of what was there
abbrev pub with_entry : StateMap → List ℕ → List ℕ → List ℕ → StateMap
with_entry state kind key id = finite.insert state (kind, key) id
