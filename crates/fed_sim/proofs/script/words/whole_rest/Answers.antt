use Rattle.std.proofs.Common.{arith}
use Rattle.fed_sim.specs.ScriptWords.{whole_rest}
use Rattle.fed_sim.proofs.script.words.whole_rest.Goals as goal

pub returns-then-is_empty-clause-wrong : goal.returns-then-is_empty-clause-wrong
unfolding whole_rest
returns-then-is_empty-clause-wrong c = grind (arith, c.if-is_empty.ensures)

pub returns-clause-ok : goal.returns-clause-ok
unfolding whole_rest
returns-clause-ok c = grind (arith, c.if-is_empty.ensures)
