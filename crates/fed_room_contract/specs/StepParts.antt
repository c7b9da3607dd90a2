-- How states are kept by earlier ones, for the clauses of private functions.
use Rattle.std.specs.Prelude.{◌≡◌, ◌<◌, ◌≤◌, ◌+◌, ◌++◌, ◌∷◌, [], ℕ, zero, suc, List, Bool, true, false, All, Some, IfSome, length, take, slice_get, option_map, unwrap_or, vec_len, vec_capacity}
use Rattle.std.specs.Arc.{arc_value}
use Rattle.std.specs.FinMap as finite
use Rattle.fed_room_contract.specs.State.{StateMap}
use Rattle.fed_room_contract.specs.Steps.{KeptStates, state_at}
use Rattle.fed_room_contract.specs.ChangeParts.{IsTagged, bits_with, with_changes}
use Rattle.fed_room_contract.specs.declared.step.Laid.{Laid as LaidChanges}
use Rattle.fed_room_contract.specs.declared.step.Over.{Over}
use Rattle.fed_room_contract.specs.declared.step.Step.{Step}
use Rattle.fed_room_contract.specs.declared.step.Step.TheVariants.{Same, Laid, Whole}
use Rattle.fed_room_contract.specs.declared.steps.Shared.{Shared}
use Rattle.fed_room_contract.specs.declared.steps.Steps.TheInside.{Inside}

-- the state that a step is, behind these states
abbrev pub step_state : List StateMap → Step → StateMap
step_state states (Same parent) = state_at states parent
step_state states (Laid laid) = with_changes (state_at states laid.over.parent) laid.over.changes.items
step_state states (Whole whole) = whole.state

-- these states, and behind them those of the steps
abbrev pub states_behind : List StateMap → List Step → List StateMap
states_behind states [] = states
states_behind states (step ∷ steps) = states_behind (states ++ step_state states step ∷ []) steps

unfoldable pub states_of : List Step → List StateMap
states_of steps = states_behind [] steps

-- laid or whole
abbrev pub is_root : Step → Bool
is_root (Same parent) = false
is_root (Laid laid) = true
is_root (Whole whole) = true

abbrev pub is_root_at : List Step → ℕ → Bool
is_root_at steps place = unwrap_or (option_map is_root (slice_get steps place)) false

-- how many changes are laid over a whole state
abbrev pub above_of : Step → ℕ
above_of (Same parent) = 0
above_of (Laid laid) = laid.above
above_of (Whole whole) = 0

abbrev pub above_at : List Step → ℕ → ℕ
above_at steps place = unwrap_or (option_map above_of (slice_get steps place)) 0

-- the place of the whole state over which changes are laid; of a step that is none of them, its own place
abbrev pub base_of : ℕ → Step → ℕ
base_of place (Same parent) = place
base_of place (Laid laid) = laid.base
base_of place (Whole whole) = place

abbrev pub base_at : List Step → ℕ → ℕ
base_at steps place = unwrap_or (option_map (base_of place) (slice_get steps place)) place

-- the bits of the tags of the changes that are laid over a whole state
abbrev pub bits_of : Step → ℕ
bits_of (Same parent) = 0
bits_of (Laid laid) = laid.bits
bits_of (Whole whole) = 0

abbrev pub bits_at : List Step → ℕ → ℕ
bits_at steps place = unwrap_or (option_map bits_of (slice_get steps place)) 0

-- a place of a step that is laid or whole
pub record IsRootOf (steps : List Step) (place : ℕ) : Type 0 where
  pub within : place < length steps
  pub root : is_root_at steps place ≡ true

-- changes of the state at an earlier place, with those below at most 31 over a whole state, which stands at its base; and they have the bits
-- of the tags of all these
pub record IsLaidOver (steps : List Step) (laid : LaidChanges) : Type 0 where
  pub root : IsRootOf steps laid.over.parent
  pub base : laid.base ≡ base_at steps laid.over.parent
  pub above : laid.above ≡ above_at steps laid.over.parent + length laid.over.changes.items
  pub few : laid.above ≤ 31
  pub tags : All IsTagged laid.over.changes.items
  pub bits : laid.bits ≡ bits_with (bits_at steps laid.over.parent) laid.over.changes.items

-- a whole state is the one at an earlier place with these changes
pub record IsWholeOver (steps : List Step) (state : StateMap) (over : Over) : Type 0 where
  pub root : IsRootOf steps over.parent
  pub made : state ≡ with_changes (state_at (states_of steps) over.parent) over.changes.items

-- what a step behind others names
abbrev pub IsLower : List Step → Step → Type 0
IsLower steps (Same parent) = IsRootOf steps parent
IsLower steps (Laid laid) = IsLaidOver steps laid
IsLower steps (Whole whole) = IfSome whole.over (IsWholeOver steps whole.state)

-- each step names earlier ones
abbrev pub AreSteps : List Step → Type 0
AreSteps steps = (place : ℕ) (step : Step) → slice_get steps place ≡ Some step → IsLower (take place steps) step

abbrev pub kept_of : Inside → KeptStates
kept_of s = record { after = states_of s.steps.items; next = option_map (step_state (states_of s.steps.items)) s.next }

-- a whole state is the one at its place
pub record IsSharedOf (steps : List Step) (shared : Shared) : Type 0 where
  pub within : shared.place < length steps
  pub state : arc_value shared.state ≡ state_at (states_of steps) shared.place

pub record HoldsTogether (s : Inside) : Type 0 where
  pub steps : AreSteps s.steps.items
  pub next : IfSome s.next (λ step. IsLower s.steps.items step)
  pub room : IfSome s.next (λ _. vec_len s.steps < vec_capacity s.steps)
  pub shared : IfSome s.shared (IsSharedOf s.steps.items)

-- ---- the keys at which states differ

-- the state at a place where one more is told than the place, and no entries at 0
abbrev pub head_state : List StateMap → ℕ → StateMap
head_state states zero = finite.empty
head_state states (suc place) = state_at states place
