use Rattle.std.proofs.Common.{arith, refl}
use Rattle.fed_json.proofs.PlainTexts.{plain_run}
use Rattle.fed_json.proofs.quoted.is_plain.Goals as goal

pub loop-at-preserved : goal.loop-at-preserved
loop-at-preserved c =
    let none = c.if-not-is_plain_run.ensures refl in
    (plain_run c.args.text.now c.loop-at.at 16 (omega arith) c.loop-at.invariant.0 none.0 none.1 none.2, omega arith)
