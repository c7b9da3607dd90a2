use Rattle.std.proofs.Common.{refl}
use Rattle.std.proofs.lemmas.Result.{err_from_is_err_and}
use Rattle.fed_sim.specs.ScriptSteps.{step_text}
use Rattle.fed_sim.proofs.ScriptTable.{unknown}
use Rattle.fed_sim.proofs.script.step_words.StepWords.read.Goals as goal

pub returns-in_ok-read-in-send-clause-ok : goal.returns-in_ok-read-in-send-clause-ok
unfolding step_text
returns-in_ok-read-in-send-clause-ok c = rw (c.in-send.is, c.in_ok-read-in-send.ensures.ok) refl

pub returns-in_err-read-in-send-clause-wrong : goal.returns-in_err-read-in-send-clause-wrong
unfolding step_text
returns-in_err-read-in-send-clause-wrong c =
    let told = err_from_is_err_and c.from_residual.result c.from_residual.ensures.1 in
    rw (told.1, told.2, c.in-send.is, c.in_err-read-in-send.ensures.wrong.1, c.in_err-read-in-send.ensures.wrong.0) refl

pub returns-in_ok-read-in-edu-clause-ok : goal.returns-in_ok-read-in-edu-clause-ok
unfolding step_text
returns-in_ok-read-in-edu-clause-ok c = rw (c.in-edu.is, c.in_ok-read-in-edu.ensures.ok) refl

pub returns-in_err-read-in-edu-clause-wrong : goal.returns-in_err-read-in-edu-clause-wrong
unfolding step_text
returns-in_err-read-in-edu-clause-wrong c =
    let told = err_from_is_err_and c.from_residual-in_err-read-in-edu.result c.from_residual-in_err-read-in-edu.ensures.1 in
    rw (told.1, told.2, c.in-edu.is, c.in_err-read-in-edu.ensures.wrong.1, c.in_err-read-in-edu.ensures.wrong.0) refl

pub returns-in_ok-read-in-close-clause-ok : goal.returns-in_ok-read-in-close-clause-ok
unfolding step_text
returns-in_ok-read-in-close-clause-ok c = rw (c.in-close.is, c.in_ok-read-in-close.ensures.ok) refl

pub returns-in_err-read-in-close-clause-wrong : goal.returns-in_err-read-in-close-clause-wrong
unfolding step_text
returns-in_err-read-in-close-clause-wrong c =
    let told = err_from_is_err_and c.from_residual-in_err-read-in-close.result c.from_residual-in_err-read-in-close.ensures.1 in
    rw (told.1, told.2, c.in-close.is, c.in_err-read-in-close.ensures.wrong.1, c.in_err-read-in-close.ensures.wrong.0) refl

pub returns-in_ok-read-in-collect-clause-ok : goal.returns-in_ok-read-in-collect-clause-ok
unfolding step_text
returns-in_ok-read-in-collect-clause-ok c = rw (c.in-collect.is, c.in_ok-read-in-collect.ensures.ok) refl

pub returns-in_err-read-in-collect-clause-wrong : goal.returns-in_err-read-in-collect-clause-wrong
unfolding step_text
returns-in_err-read-in-collect-clause-wrong c =
    let told = err_from_is_err_and c.from_residual-in_err-read-in-collect.result c.from_residual-in_err-read-in-collect.ensures.1 in
    rw (told.1, told.2, c.in-collect.is, c.in_err-read-in-collect.ensures.wrong.1, c.in_err-read-in-collect.ensures.wrong.0) refl

pub returns-in_ok-read-in-cut-clause-ok : goal.returns-in_ok-read-in-cut-clause-ok
unfolding step_text
returns-in_ok-read-in-cut-clause-ok c = rw (c.in-cut.is, c.in_ok-read-in-cut.ensures.ok) refl

pub returns-in_err-read-in-cut-clause-wrong : goal.returns-in_err-read-in-cut-clause-wrong
unfolding step_text
returns-in_err-read-in-cut-clause-wrong c =
    let told = err_from_is_err_and c.from_residual-in_err-read-in-cut.result c.from_residual-in_err-read-in-cut.ensures.1 in
    rw (told.1, told.2, c.in-cut.is, c.in_err-read-in-cut.ensures.wrong.1, c.in_err-read-in-cut.ensures.wrong.0) refl

pub returns-in_ok-read-in-failed-clause-ok : goal.returns-in_ok-read-in-failed-clause-ok
unfolding step_text
returns-in_ok-read-in-failed-clause-ok c = rw (c.in-failed.is, c.in_ok-read-in-failed.ensures.ok) refl

pub returns-in_err-read-in-failed-clause-wrong : goal.returns-in_err-read-in-failed-clause-wrong
unfolding step_text
returns-in_err-read-in-failed-clause-wrong c =
    let told = err_from_is_err_and c.from_residual-in_err-read-in-failed.result c.from_residual-in_err-read-in-failed.ensures.1 in
    rw (told.1, told.2, c.in-failed.is, c.in_err-read-in-failed.ensures.wrong.1, c.in_err-read-in-failed.ensures.wrong.0) refl

pub returns-in_ok-read-in-post-clause-ok : goal.returns-in_ok-read-in-post-clause-ok
unfolding step_text
returns-in_ok-read-in-post-clause-ok c = rw (c.in-post.is, c.in_ok-read-in-post.ensures.ok) refl

pub returns-in_err-read-in-post-clause-wrong : goal.returns-in_err-read-in-post-clause-wrong
unfolding step_text
returns-in_err-read-in-post-clause-wrong c =
    let told = err_from_is_err_and c.from_residual-in_err-read-in-post.result c.from_residual-in_err-read-in-post.ensures.1 in
    rw (told.1, told.2, c.in-post.is, c.in_err-read-in-post.ensures.wrong.1, c.in_err-read-in-post.ensures.wrong.0) refl

pub returns-in_ok-number_of-in-arrive-clause-ok : goal.returns-in_ok-number_of-in-arrive-clause-ok
unfolding step_text
returns-in_ok-number_of-in-arrive-clause-ok c = rw (c.in-arrive.is, c.in_ok-number_of-in-arrive.ensures.ok) refl

pub returns-in_err-number_of-in-arrive-clause-wrong : goal.returns-in_err-number_of-in-arrive-clause-wrong
unfolding step_text
returns-in_err-number_of-in-arrive-clause-wrong c =
    let told = err_from_is_err_and c.from_residual-in_err-number_of-in-arrive.result c.from_residual-in_err-number_of-in-arrive.ensures.1 in
    rw (told.1, told.2, c.in-arrive.is, c.in_err-number_of-in-arrive.ensures.wrong.1, c.in_err-number_of-in-arrive.ensures.wrong.0) refl

pub returns-in_ok-number_of-in-answer-clause-ok : goal.returns-in_ok-number_of-in-answer-clause-ok
unfolding step_text
returns-in_ok-number_of-in-answer-clause-ok c = rw (c.in-answer.is, c.in_ok-number_of-in-answer.ensures.ok) refl

pub returns-in_err-number_of-in-answer-clause-wrong : goal.returns-in_err-number_of-in-answer-clause-wrong
unfolding step_text
returns-in_err-number_of-in-answer-clause-wrong c =
    let told = err_from_is_err_and c.from_residual-in_err-number_of-in-answer.result c.from_residual-in_err-number_of-in-answer.ensures.1 in
    rw (told.1, told.2, c.in-answer.is, c.in_err-number_of-in-answer.ensures.wrong.1, c.in_err-number_of-in-answer.ensures.wrong.0) refl

pub returns-in_ok-server-in-apply-clause-ok : goal.returns-in_ok-server-in-apply-clause-ok
unfolding step_text
returns-in_ok-server-in-apply-clause-ok c = rw (c.in-apply.is, c.in_ok-server-in-apply.ensures.ok) refl

pub returns-in_err-server-in-apply-clause-wrong : goal.returns-in_err-server-in-apply-clause-wrong
unfolding step_text
returns-in_err-server-in-apply-clause-wrong c =
    let told = err_from_is_err_and c.from_residual-in_err-server-in-apply.result c.from_residual-in_err-server-in-apply.ensures.1 in
    rw (told.1, told.2, c.in-apply.is, c.in_err-server-in-apply.ensures.wrong.1, c.in_err-server-in-apply.ensures.wrong.0) refl

pub returns-in_ok-number_of-in-tick-clause-ok : goal.returns-in_ok-number_of-in-tick-clause-ok
unfolding step_text
returns-in_ok-number_of-in-tick-clause-ok c = rw (c.in-tick.is, c.in_ok-number_of-in-tick.ensures.ok) refl

pub returns-in_err-number_of-in-tick-clause-wrong : goal.returns-in_err-number_of-in-tick-clause-wrong
unfolding step_text
returns-in_err-number_of-in-tick-clause-wrong c =
    let told = err_from_is_err_and c.from_residual-in_err-number_of-in-tick.result c.from_residual-in_err-number_of-in-tick.ensures.1 in
    rw (told.1, told.2, c.in-tick.is, c.in_err-number_of-in-tick.ensures.wrong.1, c.in_err-number_of-in-tick.ensures.wrong.0) refl

pub returns-in_ok-number_of-in-calm-clause-ok : goal.returns-in_ok-number_of-in-calm-clause-ok
unfolding step_text
returns-in_ok-number_of-in-calm-clause-ok c = rw (c.in-calm.is, c.in_ok-number_of-in-calm.ensures.ok) refl

pub returns-in_err-number_of-in-calm-clause-wrong : goal.returns-in_err-number_of-in-calm-clause-wrong
unfolding step_text
returns-in_err-number_of-in-calm-clause-wrong c =
    let told = err_from_is_err_and c.from_residual-in_err-number_of-in-calm.result c.from_residual-in_err-number_of-in-calm.ensures.1 in
    rw (told.1, told.2, c.in-calm.is, c.in_err-number_of-in-calm.ensures.wrong.1, c.in_err-number_of-in-calm.ensures.wrong.0) refl

pub returns-in_ok-read-in-show-clause-ok : goal.returns-in_ok-read-in-show-clause-ok
unfolding step_text
returns-in_ok-read-in-show-clause-ok c = rw (c.in-show.is, c.in_ok-read-in-show.ensures.ok) refl

pub returns-in_err-read-in-show-clause-wrong : goal.returns-in_err-read-in-show-clause-wrong
unfolding step_text
returns-in_err-read-in-show-clause-wrong c =
    let told = err_from_is_err_and c.from_residual-in_err-read-in-show.result c.from_residual-in_err-read-in-show.ensures.1 in
    rw (told.1, told.2, c.in-show.is, c.in_err-read-in-show.ensures.wrong.1, c.in_err-read-in-show.ensures.wrong.0) refl

pub returns-in_default-clause-wrong : goal.returns-in_default-clause-wrong
returns-in_default-clause-wrong c =
    unknown c.args.name.now c.args.rest.now c.in_default.not-send c.in_default.not-edu c.in_default.not-close c.in_default.not-collect c.in_default.not-cut c.in_default.not-failed c.in_default.not-post c.in_default.not-arrive c.in_default.not-answer c.in_default.not-apply c.in_default.not-tick c.in_default.not-calm c.in_default.not-show
