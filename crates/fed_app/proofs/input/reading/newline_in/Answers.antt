use Rattle.fed_app.specs.Input.{is_newline}
use Rattle.fed_app.proofs.Newlines.{position_is}
use Rattle.fed_app.proofs.input.reading.newline_in.Goals as goal

pub returns-clause-place : goal.returns-clause-place
returns-clause-place c = position_is is_newline c.args.bytes.now c.memchr.result c.memchr.ensures
