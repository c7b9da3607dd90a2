use Rattle.std.proofs.Common.{◌<◌, List, length, sym, ap, subst, ◌∙◌}
use Rattle.fed_room_contract.specs.Steps.{KeptStates}
use Rattle.fed_room_contract.specs.declared.step.Step.{Step}
use Rattle.fed_room_contract.proofs.KeptSteps.{within-steps}
use Rattle.fed_room_contract.proofs.steps.Steps.set_laid.Goals as goal

pub step_with-requires-clause-within : goal.step_with-requires-clause-within
step_with-requires-clause-within c =
    subst (λ (steps : List Step). c.args.place < length steps) (sym (c.deref.ensures.value ∙ c.in_ok-reserve.ensures.items))
    (within-steps c.self.inside.steps.items c.args.self.now.after c.args.place (ap (λ (s : KeptStates). s.after) c.self.view_is) c.requires)
