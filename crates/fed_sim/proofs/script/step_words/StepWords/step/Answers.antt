use Rattle.std.proofs.Common.{refl}
use Rattle.std.proofs.lemmas.Result.{err_from_is_err_and}
use Rattle.fed_sim.specs.ScriptSteps.{step_fault}
use Rattle.fed_sim.proofs.script.step_words.StepWords.step.Goals as goal

pub returns-in_err-server-in-Close-clause-wrong : goal.returns-in_err-server-in-Close-clause-wrong
unfolding step_fault
returns-in_err-server-in-Close-clause-wrong c =
    let told = err_from_is_err_and c.from_residual.result c.from_residual.ensures.1 in
    rw (told.1, told.2, c.in-Close.is, c.in_err-server-in-Close.ensures.unknown.0, c.in_err-server-in-Close.ensures.unknown.1) refl

pub returns-in_err-server-in-Collect-clause-wrong : goal.returns-in_err-server-in-Collect-clause-wrong
unfolding step_fault
returns-in_err-server-in-Collect-clause-wrong c =
    let told = err_from_is_err_and c.from_residual-in_err-server-in-Collect.result c.from_residual-in_err-server-in-Collect.ensures.1 in
    rw (told.1, told.2, c.in-Collect.is, c.in_err-server-in-Collect.ensures.unknown.0, c.in_err-server-in-Collect.ensures.unknown.1) refl

pub returns-in_err-server-in-Cut-clause-wrong : goal.returns-in_err-server-in-Cut-clause-wrong
unfolding step_fault
returns-in_err-server-in-Cut-clause-wrong c =
    let told = err_from_is_err_and c.from_residual-in_err-server-in-Cut.result c.from_residual-in_err-server-in-Cut.ensures.1 in
    rw (told.1, told.2, c.in-Cut.is, c.in_err-server-in-Cut.ensures.unknown.0, c.in_err-server-in-Cut.ensures.unknown.1) refl

pub returns-in_err-server-in-Failed-clause-wrong : goal.returns-in_err-server-in-Failed-clause-wrong
unfolding step_fault
returns-in_err-server-in-Failed-clause-wrong c =
    let told = err_from_is_err_and c.from_residual-in_err-server-in-Failed.result c.from_residual-in_err-server-in-Failed.ensures.1 in
    rw (told.1, told.2, c.in-Failed.is, c.in_err-server-in-Failed.ensures.unknown.0, c.in_err-server-in-Failed.ensures.unknown.1) refl

pub returns-in_err-server-in-Post-clause-wrong : goal.returns-in_err-server-in-Post-clause-wrong
unfolding step_fault
returns-in_err-server-in-Post-clause-wrong c =
    let told = err_from_is_err_and c.from_residual-in_err-server-in-Post.result c.from_residual-in_err-server-in-Post.ensures.1 in
    rw (told.1, told.2, c.in-Post.is, c.in_err-server-in-Post.ensures.unknown.0, c.in_err-server-in-Post.ensures.unknown.1) refl

pub returns-in_err-place_of-in-Apply-clause-wrong : goal.returns-in_err-place_of-in-Apply-clause-wrong
unfolding step_fault
returns-in_err-place_of-in-Apply-clause-wrong c =
    let told = err_from_is_err_and c.from_residual-in_err-place_of-in-Apply.result c.from_residual-in_err-place_of-in-Apply.ensures.1 in
    rw (told.1, told.2, c.in-Apply.is, c.in_err-place_of-in-Apply.ensures.unknown.0, c.in_err-place_of-in-Apply.ensures.unknown.1) refl

pub returns-in_err-server-in-Show-clause-wrong : goal.returns-in_err-server-in-Show-clause-wrong
unfolding step_fault
returns-in_err-server-in-Show-clause-wrong c =
    let told = err_from_is_err_and c.from_residual-in_err-server-in-Show.result c.from_residual-in_err-server-in-Show.ensures.1 in
    rw (told.1, told.2, c.in-Show.is, c.in_err-server-in-Show.ensures.unknown.0, c.in_err-server-in-Show.ensures.unknown.1) refl

pub returns-in_ok-from_str-in-Apply-clause-ok : goal.returns-in_ok-from_str-in-Apply-clause-ok
returns-in_ok-from_str-in-Apply-clause-ok c =
    rw c.in-Apply.is (c.in_ok-place_of-in-Apply.field-0, c.in_ok-from_str-in-Apply.field-0, c.in_ok-place_of-in-Apply.ensures.ok, c.in_ok-from_str-in-Apply.ensures.ok, refl)
