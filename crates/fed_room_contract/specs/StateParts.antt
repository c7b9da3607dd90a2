-- The state that the fields of a `State` stand for.
use Rattle.std.specs.Prelude.{ℕ, List, [], ◌∷◌, ◌++◌, map, String}
use Rattle.std.specs.declared.alloc.Global.{Global}
use Rattle.std.specs.FinMap as finite
use Rattle.fed_json.specs.TextMap.{TextMap, text_map}
use Rattle.fed_room_contract.specs.State.{StateKey, StateMap}

-- the ids of events of one type, by state key
abbrev pub Ids : Type 0
Ids = TextMap (List ℕ)

-- the entries of one type, and of all
abbrev pub entries_of : List ℕ → List (List ℕ × List ℕ) → List (StateKey × List ℕ)
entries_of kind ids = map (λ e. ((kind, e.0), e.1)) ids

abbrev pub all_entries : List (List ℕ × Ids) → List (StateKey × List ℕ)
all_entries [] = []
all_entries (e ∷ es) = entries_of e.0 (finite.entries e.1) ++ all_entries es

abbrev pub flattened : TextMap Ids → StateMap
flattened kinds = finite.from_entries (all_entries (finite.entries kinds))

abbrev pub kinds_of : List (String Global × Ids) → TextMap Ids
kinds_of es = text_map (λ ids. ids) es

abbrev pub state_of : List (String Global × Ids) → StateMap
state_of es = flattened (kinds_of es)
