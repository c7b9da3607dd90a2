use Rattle.std.proofs.Common.{arith}
use Rattle.fed_json.proofs.PlainTexts.{plain_text}
use Rattle.fed_json.proofs.quoted.is_plain_from.Goals as goal

pub returns : goal.returns
returns c = λ _. plain_text c.args.text.now (λ at within. c.loop-at.invariant at (omega arith))
