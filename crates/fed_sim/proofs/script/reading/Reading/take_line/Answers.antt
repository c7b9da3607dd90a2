use Rattle.std.proofs.Common.{◌∙◌, sym}
use Rattle.std.proofs.lemmas.Result.{err_from_is_err_and, on_ok_weaker, MatchResult-weaker}
use Rattle.fed_sim.specs.Script.{skipped, taken, no_text}
use Rattle.fed_sim.specs.ScriptReadings.{said_by, command_of}
use Rattle.fed_sim.proofs.ScriptLines.{command_fault}
use Rattle.fed_sim.proofs.script.reading.Reading.take_line.Goals as goal

pub returns-then-is_skipped-clause-ok : goal.returns-then-is_skipped-clause-ok
returns-then-is_skipped-clause-ok c = skipped (sym c.is_skipped.ensures ∙ c.if-is_skipped.true)

pub returns-in_err-command-clause-wrong : goal.returns-in_err-command-clause-wrong
returns-in_err-command-clause-wrong c =
    let told = err_from_is_err_and c.from_residual.result c.from_residual.ensures.1 in
    rw (told.1, told.2) (no_text (sym c.is_skipped.ensures ∙ c.if-is_skipped.false) c.in_err-command.ensures.wrong)

pub returns-clause-ok : goal.returns-clause-ok
returns-clause-ok c =
    on_ok_weaker c.take_command.result (λ says. taken (command_of c.in_ok-command.command) _ (sym c.is_skipped.ensures ∙ c.if-is_skipped.false) c.in_ok-command.ensures.ok says) c.take_command.ensures.ok

pub returns-clause-wrong : goal.returns-clause-wrong
returns-clause-wrong c =
    MatchResult-weaker c.take_command.result c.take_command.ensures.wrong (λ _ h. h)
    (command_fault (said_by c.args.self.now) c.args.line.now (command_of c.in_ok-command.command) (sym c.is_skipped.ensures ∙ c.if-is_skipped.false) c.in_ok-command.ensures.ok)
