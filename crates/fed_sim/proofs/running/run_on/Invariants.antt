use Rattle.std.proofs.Common.{◌≡◌, ◌≤◌, take, vec_len, vec_capacity}
use Rattle.fed_sim.specs.Steps.{Ran}
use Rattle.fed_sim.specs.WorldParts.{world_of}
use Rattle.fed_sim.proofs.running.run_on.Given as goal

-- there is room for what the steps that are left answer, and the others were made
abbrev pub invariant-loop-step : goal.invariant-loop-step
invariant-loop-step g l =
    (vec_len l.replies ≡ l.step-index) × (l.step-index-end ≤ vec_capacity l.replies) × Ran (world_of l.fn.world) (take l.step-index l.fn.steps) l.replies.items (world_of l.world)
