use Rattle.std.proofs.Common.{refl}
use Rattle.std.proofs.lemmas.Result.{err_from_is_err_and}
use Rattle.fed_sim.specs.ScriptSteps.{step_fault}
use Rattle.fed_sim.specs.ScriptTexts.{send_text}
use Rattle.fed_sim.proofs.ScriptContent.{value_read, content_fault}
use Rattle.fed_sim.proofs.script.sending.SendWords.step.Goals as goal

pub returns-in_err-server-clause-wrong : goal.returns-in_err-server-clause-wrong
unfolding step_fault
returns-in_err-server-clause-wrong c =
    let told = err_from_is_err_and c.from_residual.result c.from_residual.ensures.1 in
    rw (told.1, told.2, c.in_err-server.ensures.unknown.0, c.in_err-server.ensures.unknown.1) refl

pub returns-in_err-content-clause-wrong : goal.returns-in_err-content-clause-wrong
unfolding step_fault
returns-in_err-content-clause-wrong c =
    let told = err_from_is_err_and c.from_residual-in_err-content.result c.from_residual-in_err-content.ensures.1 in
    let r = c.in_err-content.ensures in
    rw (told.1, told.2) (content_fault c.args.servers.now (send_text c.args.self) 127 c.as_bytes.result.now _ r.not_json r.not_canonical r.too_deep
    (λ none. let bad = rw c.as_bytes.ensures.value at none in rw (c.in_ok-server.ensures.ok, bad) refl))

pub returns-clause-ok : goal.returns-clause-ok
returns-clause-ok c = (
  c.in_ok-server.server,
  c.in_ok-content.content,
  c.in_ok-server.ensures.ok,
  rw c.as_bytes.ensures.value at (value_read 127 c.as_bytes.result.now c.in_ok-content.content c.in_ok-content.ensures.ok),
  rw (c.in_ok-from_str.ensures.ok, c.in_ok-from_str-2.ensures.ok, c.in_ok-from_str-3.ensures.ok, c.in_ok-kept.ensures) refl,
)
