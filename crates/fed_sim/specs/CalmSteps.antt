-- The rounds of calm among the steps of a run.
use Rattle.std.specs.Prelude.{ℕ, List}
use Rattle.fed_sim.specs.declared.outcome.Outcome.{Outcome}
use Rattle.fed_sim.specs.declared.setup.Setup.{Setup}
use Rattle.fed_sim.specs.declared.step.Step.{Step}
use Rattle.fed_sim.specs.declared.step.Step.TheVariants.{Calm}
use Rattle.fed_sim.specs.Calm.{CalmDelivers}
use Rattle.fed_sim.specs.Running.{IsRun}
use Rattle.fed_sim.specs.Steps.{Does}
use Rattle.fed_sim.specs.World.{WorldState}

-- In every run that begins with this setup, a step of calm that finds its memory delivers as so many rounds do.
abbrev pub CalmStepsDeliver : Setup → Type 0
CalmStepsDeliver setup = (steps : List Step) (replies : List Outcome) (old : WorldState) → IsRun setup steps replies old
    → (rounds : ℕ) (told : Outcome) (new : WorldState) → Does (Calm rounds) old told new → CalmDelivers rounds old new
