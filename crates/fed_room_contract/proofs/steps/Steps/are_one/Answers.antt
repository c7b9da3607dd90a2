use Rattle.std.proofs.Common.{◌<◌, List, length, sym, ap, subst}
use Rattle.fed_room_contract.specs.Steps.{KeptStates}
use Rattle.fed_room_contract.specs.declared.step.Step.{Step}
use Rattle.fed_room_contract.proofs.KeptSteps.{within-steps}
use Rattle.fed_room_contract.proofs.steps.Steps.are_one.Goals as goal

pub root-requires-clause-within : goal.root-requires-clause-within
root-requires-clause-within c =
    subst (λ (steps : List Step). c.args.place < length steps) (sym c.deref.ensures.value)
    (within-steps c.self.inside.steps.items c.args.self.now.after c.args.place (ap (λ (s : KeptStates). s.after) c.self.view_is) c.requires.place)

pub root-requires-2-clause-within : goal.root-requires-2-clause-within
root-requires-2-clause-within c =
    subst (λ (steps : List Step). c.args.other < length steps) (sym c.deref-2.ensures.value)
    (within-steps c.self.inside.steps.items c.args.self.now.after c.args.other (ap (λ (s : KeptStates). s.after) c.self.view_is) c.requires.other)
