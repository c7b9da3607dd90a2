use Rattle.std.proofs.Common.{ap, Err}
use Rattle.fed_txn.proofs.Bodies.{past_all}
use Rattle.fed_txn.proofs.reading.read_body.Goals as goal

pub unreachable-requires : goal.unreachable-requires
unreachable-requires c = past_all c.args.body.now (c.in-Err-TooDeep.ensures.too_deep (ap Err c.in-Err-TooDeep.field-0-is))
