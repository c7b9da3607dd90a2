use Rattle.std.proofs.Common.{string_bytes}
use Rattle.fed_inbox.specs.Log.{with_replies}
use Rattle.fed_inbox.specs.DeliveryParts.{judgement}
use Rattle.fed_replies.specs.Kept.{reply_at}
use Rattle.fed_inbox.proofs.Steps.{by_memory}
use Rattle.fed_inbox.proofs.Deliveries.{kept_answered, repeated_kept}
use Rattle.fed_inbox.proofs.log.Log.take.Goals as goal

pub returns-in_err-accepted-clause-step : goal.returns-in_err-accepted-clause-step
returns-in_err-accepted-clause-step g c = by_memory (with_replies (g.S.ReplyStore.kept c.args.store.now) c.args.self.now) _ c.from_residual.result c.from_residual.ensures.1

pub returns-in-Some-clause-step : goal.returns-in-Some-clause-step
returns-in-Some-clause-step g c =
    let kept = g.S.ReplyStore.kept c.args.store.now in
    let origin = c.args.self.now.origin in
    let txn = string_bytes c.args.judged.txn in
    let a = c.in-Some.accepted in
    kept_answered (with_replies kept c.args.self.now) txn (judgement c.args.judged).comes_to (reply_at kept origin txn) a.reply.items a.fresh.items
    (repeated_kept kept origin txn c.deref.result.now c.in_ok-accepted.field-0 a c.in-Some.is c.in_ok-accepted.ensures c.deref.ensures)
