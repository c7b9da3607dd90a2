use Rattle.std.proofs.Common.{arith, refl}
use Rattle.fed_json.proofs.PlainTexts.{plain_run}
use Rattle.fed_json.proofs.quoted.is_plain_end.Goals as goal

pub is_plain_from-requires-then-is_plain_run-clause-plain : goal.is_plain_from-requires-then-is_plain_run-clause-plain
is_plain_from-requires-then-is_plain_run-clause-plain c =
    let none = c.if-is_plain_run.ensures refl in
    plain_run c.args.text.now c.args.from 8 (omega arith) c.requires.plain none.0 none.1 none.2
