use Rattle.std.proofs.Common.{Err, refl, ap, ◌∙◌}
use Rattle.fed_txn.specs.Transaction.{transaction_of}
use Rattle.fed_inbox.proofs.Deliveries.{refused_as}
use Rattle.fed_inbox.proofs.receiver.Receiver.outcome_of.Goals as goal

pub returns-in_ok-refusal-in-Err : goal.returns-in_ok-refusal-in-Err
returns-in_ok-refusal-in-Err g c =
    ap Err c.in_ok-refusal-in-Err.ensures.refusal
    ∙ refused_as (g.K.Keys.checks c.args.keys.now) c.args.self.now.rooms (transaction_of c.args.body) c.in-Err.fault c.in-Err.ensures.fault c.in-Err.ensures.only (c.in_ok-refusal-in-Err.ensures.memory refl)
