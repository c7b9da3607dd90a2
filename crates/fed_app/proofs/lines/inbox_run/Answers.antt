use Rattle.fed_app.specs.Setup.{first_inbox}
use Rattle.fed_app.proofs.Reached.{no_memory}
use Rattle.fed_app.proofs.lines.inbox_run.Goals as goal

pub returns-in_err-from_str-clause-run : goal.returns-in_err-from_str-clause-run
returns-in_err-from_str-clause-run g c = no_memory (g.R.Read.remaining c.args.reader) (first_inbox c.args.setup) (g.W.Write.contents c.args.writer.now) c.from_residual.result c.from_residual.ensures.1

pub returns-in_err-input-clause-run : goal.returns-in_err-input-clause-run
returns-in_err-input-clause-run g c = no_memory (g.R.Read.remaining c.args.reader) (first_inbox c.args.setup) (g.W.Write.contents c.args.writer.now) c.from_residual-in_err-input.result c.from_residual-in_err-input.ensures.1

pub returns-in_err-inbox-clause-run : goal.returns-in_err-inbox-clause-run
returns-in_err-inbox-clause-run g c = no_memory (g.R.Read.remaining c.args.reader) (first_inbox c.args.setup) (g.W.Write.contents c.args.writer.now) c.from_residual-in_err-inbox.result c.from_residual-in_err-inbox.ensures.1
