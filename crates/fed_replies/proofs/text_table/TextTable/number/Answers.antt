use Rattle.std.proofs.Common.{◌∙◌}
use Rattle.fed_replies.proofs.TextTables.{number_found}
use Rattle.fed_replies.proofs.text_table.TextTable.number.Goals as goal

pub returns : goal.returns
returns c = number_found _ c.args.self.now c.self.inside.numbers c.args.text.now c.copied.result c.self.invariant (c.copied.ensures ∙ c.get.ensures.value) c.self.view_is
