use Rattle.std.proofs.lemmas.Result.{err_from_is_err_and}
use Rattle.fed_sim.specs.Script.{step_before_servers, then_steps}
use Rattle.fed_sim.specs.ScriptReadings.{said_by}
use Rattle.fed_sim.specs.ScriptTexts.{text_of}
use Rattle.fed_sim.proofs.ScriptWrong.{wrong_step}
use Rattle.fed_sim.proofs.script.reading.Reading.take_step.Goals as goal

pub returns-in_default-clause-wrong : goal.returns-in_default-clause-wrong
returns-in_default-clause-wrong c = step_before_servers (text_of c.args.words) c.in_default.is

pub returns-in_err-step-clause-wrong : goal.returns-in_err-step-clause-wrong
returns-in_err-step-clause-wrong c =
    let told = err_from_is_err_and c.from_residual.result c.from_residual.ensures.1 in
    rw (told.1, told.2) (wrong_step (said_by c.args.self.now) c.in-Some.servers (text_of c.args.words) _ c.in-Some.is c.in_err-step.ensures.wrong)

pub returns-clause-ok : goal.returns-clause-ok
returns-clause-ok c =
    rw c.in_ok-push.ensures.items (then_steps c.in-Some.servers (text_of c.args.words) c.in_ok-step.step c.in-Some.is c.in_ok-step.ensures.ok)
