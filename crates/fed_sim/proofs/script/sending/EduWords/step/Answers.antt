use Rattle.std.proofs.Common.{refl}
use Rattle.std.proofs.lemmas.Result.{err_from_is_err_and}
use Rattle.fed_sim.specs.ScriptSteps.{step_fault, are_listed, names_in}
use Rattle.fed_sim.specs.ScriptTexts.{edu_text}
use Rattle.fed_sim.proofs.ScriptContent.{value_read, content_fault, dests_fault}
use Rattle.fed_sim.proofs.script.sending.EduWords.step.Goals as goal

pub returns-in_err-server-clause-wrong : goal.returns-in_err-server-clause-wrong
unfolding step_fault
returns-in_err-server-clause-wrong c =
    let told = err_from_is_err_and c.from_residual.result c.from_residual.ensures.1 in
    rw (told.1, told.2, c.in_err-server.ensures.unknown.0, c.in_err-server.ensures.unknown.1) refl

pub returns-in_err-dests-clause-wrong : goal.returns-in_err-dests-clause-wrong
unfolding step_fault
returns-in_err-dests-clause-wrong c =
    let told = err_from_is_err_and c.from_residual-in_err-dests.result c.from_residual-in_err-dests.ensures.1 in
    rw (told.1, told.2) (dests_fault c.args.servers.now (edu_text c.args.self) (are_listed c.args.servers.now (names_in c.args.self.dests.now)) _ c.in_err-dests.ensures.unknown
    (λ none. rw (c.in_ok-server.ensures.ok, none) refl))

pub returns-in_err-content-clause-wrong : goal.returns-in_err-content-clause-wrong
unfolding step_fault
returns-in_err-content-clause-wrong c =
    let told = err_from_is_err_and c.from_residual-in_err-content.result c.from_residual-in_err-content.ensures.1 in
    let r = c.in_err-content.ensures in
    rw (told.1, told.2) (content_fault c.args.servers.now (edu_text c.args.self) 126 c.as_bytes.result.now _ r.not_json r.not_canonical r.too_deep
    (λ none. let bad = rw c.as_bytes.ensures.value at none in rw (c.in_ok-server.ensures.ok, c.in_ok-dests.ensures.ok.listed, bad) refl))

pub returns-clause-ok : goal.returns-clause-ok
returns-clause-ok c = (
  c.in_ok-server.server,
  c.in_ok-dests.dests,
  c.in_ok-content.content,
  c.in_ok-server.ensures.ok,
  c.in_ok-dests.ensures.ok,
  rw c.as_bytes.ensures.value at (value_read 126 c.as_bytes.result.now c.in_ok-content.content c.in_ok-content.ensures.ok),
  rw c.in_ok-edu.ensures refl,
)
