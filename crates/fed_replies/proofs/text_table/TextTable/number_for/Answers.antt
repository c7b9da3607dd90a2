use Rattle.fed_replies.proofs.TextTables.{number_there}
use Rattle.fed_replies.proofs.text_table.TextTable.number_for.Goals as goal

pub returns-in-Some-clause-ok : goal.returns-in-Some-clause-ok
returns-in-Some-clause-ok c = number_there c.args.self.now c.args.text.now c.in-Some.number c.in-Some.ensures
