use Rattle.std.proofs.Common.{All, arith, subst}
use Rattle.std.proofs.lemmas.Grind.{common_steps}
use Rattle.std.proofs.lemmas.List.{take_all}
use Rattle.std.proofs.lemmas.List.Elements.{All-more}
use Rattle.fed_txn.specs.WritingParts.{IsWritten}
use Rattle.fed_txn.proofs.writing.with_edus.Goals as goal

pub loop-edu-preserved : goal.loop-edu-preserved
loop-edu-preserved c = record {
  text = grind (arith, common_steps);
  each = All-more IsWritten c.args.edus.now c.loop-edu.edu-index c.edu-item.result c.loop-edu-test.true c.loop-edu.invariant.each (subst IsWritten c.edu-item.is c.in_ok-add.ensures.item);
}

pub returns-clause-each : goal.returns-clause-each
returns-clause-each c = subst (All IsWritten) (take_all c.loop-edu.edu-index c.args.edus.now c.loop-edu-test.false) c.loop-edu.invariant.each
