use Rattle.std.proofs.Common.{◌≡◌, ◌∙◌, refl}
use Rattle.fed_sim.specs.Script.{line_text, command_text}
use Rattle.fed_sim.proofs.ScriptLines.{text_line, not_text}
use Rattle.fed_sim.proofs.script.command.Command.read.Goals as goal

pub returns-in_default-clause-wrong : goal.returns-in_default-clause-wrong
returns-in_default-clause-wrong c = not_text c.args.line.now c.in_default.ensures.cases.0

pub returns-clause-ok : goal.returns-clause-ok
returns-clause-ok c =
    let whole : line_text c.args.line.now ≡ command_text c.name_and_rest.result.0.now c.name_and_rest.result.1.now =
    text_line c.args.line.now c.in-Ok.ensures.cases.1 ∙ rw (c.name_and_rest.ensures.name, c.name_and_rest.ensures.rest, c.in-Ok.ensures.cases.0) refl in
    rw whole c.named.ensures.ok

pub returns-clause-wrong : goal.returns-clause-wrong
returns-clause-wrong c =
    let whole : line_text c.args.line.now ≡ command_text c.name_and_rest.result.0.now c.name_and_rest.result.1.now =
    text_line c.args.line.now c.in-Ok.ensures.cases.1 ∙ rw (c.name_and_rest.ensures.name, c.name_and_rest.ensures.rest, c.in-Ok.ensures.cases.0) refl in
    rw whole c.named.ensures.wrong
