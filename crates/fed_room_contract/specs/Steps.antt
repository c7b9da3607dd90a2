-- The states of a room, one after another.
use Rattle.std.specs.Prelude.{◌≡◌, ℕ, List, Option, false, Contains, refl}
use Rattle.std.specs.Coded.{Coded, code_by, coded×, coded_list, coded_option}
use Rattle.std.specs.FinMap as finite
use Rattle.std.specs.List.{slice_index_or}
use Rattle.fed_room_contract.specs.State.{StateKey, StateMap, state_code}

-- states one after another, and the next one, where it is made already
pub record KeptStates : Type 0 where
  pub after : List StateMap
  pub next : Option StateMap

abbrev pub states_code : Coded KeptStates
states_code = code_by (List StateMap × Option StateMap) (coded× (coded_list state_code) (coded_option state_code)) (λ s. (s.after, s.next)) (λ p. record { after = p.0; next = p.1 }) (λ _. refl)

-- the state at a place, counted from 0
abbrev pub state_at : List StateMap → ℕ → StateMap
state_at states place = slice_index_or states place finite.empty

-- at all types and state keys at which `keys` has no entry, the second state has what the first has
abbrev pub IsAlikeBut : StateMap → StateMap → StateMap → Type 0
IsAlikeBut keys state other = (key : StateKey) → finite.contains_key keys key ≡ false → finite.get other key ≡ finite.get state key

-- so have the states at these places
abbrev pub AreAlikeBut : StateMap → List StateMap → List ℕ → Type 0
AreAlikeBut keys states places = (one other : ℕ) → Contains places one → Contains places other → IsAlikeBut keys (state_at states one) (state_at states other)
