use Rattle.std.proofs.Common.{List, None, ap}
use Rattle.fed_room_contract.specs.Steps.{KeptStates}
use Rattle.fed_room_contract.specs.StepParts.{states_of}
use Rattle.fed_room_contract.specs.declared.step.Step.{Step}
use Rattle.fed_room_contract.proofs.steps.Steps.new.Goals as goal

pub returns : goal.returns
unfolding states_of
returns c =
    let kept : List Step → KeptStates = λ steps. record { after = states_of steps; next = None } in
    ap kept c.new.ensures.items
