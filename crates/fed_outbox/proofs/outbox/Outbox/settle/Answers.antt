use Rattle.std.proofs.Common.{arith}
use Rattle.fed_outbox.proofs.Counts.{settle_is}
use Rattle.fed_outbox.proofs.outbox.Outbox.settle.Goals as goal

pub returns-clause-settle : goal.returns-clause-settle
returns-clause-settle c = rw (← c.self.view_is) (settle_is c.self.inside c.in-Some.sent _ _ _ c.in-Some.is (omega arith) (omega arith))
