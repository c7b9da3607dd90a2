use Rattle.std.proofs.Common.{◌<◌, ◌≤◌, ◌∷◌, ℕ, All, Contains, length}
use Rattle.fed_room_contract.specs.Steps.{state_at}
use Rattle.fed_room_contract.specs.StepParts.{states_of}
use Rattle.fed_room_contract.proofs.Heads.{IsFollowed}
use Rattle.fed_room_contract.proofs.differing.differing.Given as goal

-- each state is followed to the latest or to one before it
abbrev pub invariant-loop-alloc : goal.invariant-loop-alloc
invariant-loop-alloc l = record {
  latest : l.latest ≤ length l.steps;
  before : All (λ head. head < l.latest) l.left.keys;
  each : (place : ℕ) → Contains l.places place → IsFollowed (states_of l.steps) l.keys (l.latest ∷ l.left.keys) (state_at (states_of l.steps) place);
}

abbrev pub decreases-loop-alloc : goal.decreases-loop-alloc
decreases-loop-alloc l = l.latest
