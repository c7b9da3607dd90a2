use Rattle.std.proofs.Common.{string_bytes, subst}
use Rattle.fed_inbox.specs.Answer.{Steps}
use Rattle.fed_inbox.specs.AnswerParts.{answer_with, fresh_with}
use Rattle.fed_inbox.specs.Log.{with_replies}
use Rattle.fed_inbox.specs.Delivery.{judged_of, step_by}
use Rattle.fed_inbox.specs.DeliveryParts.{delivered}
use Rattle.fed_replies.specs.Kept.{reply_at}
use Rattle.fed_inbox.proofs.Steps.{by_memory}
use Rattle.fed_inbox.proofs.Deliveries.{not_kept, repeated_none}
use Rattle.fed_inbox.proofs.log.Log.answer.Goals as goal

pub returns-in_err-accepted-clause-step : goal.returns-in_err-accepted-clause-step
returns-in_err-accepted-clause-step g c = by_memory (with_replies (g.S.ReplyStore.kept c.args.store.now) c.args.self.now) _ c.from_residual.result c.from_residual.ensures.1

pub returns-in_err-judged-clause-step : goal.returns-in_err-judged-clause-step
returns-in_err-judged-clause-step g c = by_memory (with_replies (g.S.ReplyStore.kept c.args.store.now) c.args.self.now) _ c.from_residual-in_err-judged.result c.from_residual-in_err-judged.ensures.1

pub returns-clause-step : goal.returns-clause-step
returns-clause-step g c =
    let kept = g.S.ReplyStore.kept c.args.store.now in
    let old = with_replies kept c.args.self.now in
    let now = with_replies (g.S.ReplyStore.kept c.take_new.new.store) c.take_new.new.self in
    let origin = c.args.self.now.origin in
    let txn = string_bytes c.args.delivery.txn in
    let r = c.take_new.result in
    let j = judged_of (g.K.Keys.checks c.args.keys.now) c.args.receiver.now.rooms (delivered c.args.delivery) in
    not_kept old txn j.comes_to (reply_at kept origin txn) (answer_with r) now (fresh_with r)
    (repeated_none kept origin txn c.txn.result.now c.in_ok-accepted.field-0 c.in_default.is c.in_ok-accepted.ensures c.txn.ensures)
    (subst (λ k. Steps old (step_by old k.txn k.comes_to) (answer_with r) now (fresh_with r)) c.in_ok-judged.ensures c.take_new.ensures.step)
