use Rattle.std.proofs.Common.{◌<◌, List, get_or, length, sym, ap, subst}
use Rattle.fed_room_contract.specs.Steps.{KeptStates}
use Rattle.fed_room_contract.specs.declared.step.Step.{Step}
use Rattle.fed_room_contract.proofs.KeptSteps.{within-steps}
use Rattle.fed_room_contract.proofs.steps.Steps.differing.Goals as goal

pub differing-requires-clause-within : goal.differing-requires-clause-within
differing-requires-clause-within c = λ k d less.
    subst (λ (steps : List Step). get_or c.args.places.now k d < length steps) (sym c.deref.ensures.value)
    (within-steps c.self.inside.steps.items c.args.self.now.after (get_or c.args.places.now k d) (ap (λ (s : KeptStates). s.after) c.self.view_is) (c.requires k d less))
