use Rattle.std.proofs.Common.{◌≡◌}
use Rattle.fed_room_contract.specs.State.{entry_at}
use Rattle.fed_room_contract.specs.Steps.{state_at}
use Rattle.fed_room_contract.specs.StepParts.{states_of}
use Rattle.fed_room_contract.proofs.steps.find.Given as goal

-- what holds at the place that is looked at holds at the first one
abbrev pub invariant-loop-step : goal.invariant-loop-step
invariant-loop-step l = entry_at (state_at (states_of l.steps) l.place) l.kind l.state_key ≡ entry_at (state_at (states_of l.steps) l.fn.place) l.kind l.state_key

abbrev pub decreases-loop-step : goal.decreases-loop-step
decreases-loop-step l = l.place
