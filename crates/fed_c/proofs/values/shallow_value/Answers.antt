use Rattle.std.proofs.Common.{Err, ap}
use Rattle.fed_c.proofs.ReadValues.{within_of_deep_value}
use Rattle.fed_c.proofs.values.shallow_value.Goals as goal

pub returns-in-Err-TooDeep-clause-fault : goal.returns-in-Err-TooDeep-clause-fault
returns-in-Err-TooDeep-clause-fault c =
    let deep = c.in-Err-TooDeep.ensures.too_deep (ap Err c.in-Err-TooDeep.field-0-is) in
    λ _. within_of_deep_value c.args.text.now c.args.levels c.bounded.result deep c.bounded.ensures.most c.bounded.ensures.same
