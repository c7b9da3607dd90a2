use Rattle.std.proofs.Common.{sym, subst}
use Rattle.fed_inbox.specs.Answer.{Steps}
use Rattle.fed_inbox.specs.AnswerParts.{answer_with, fresh_with}
use Rattle.fed_inbox.specs.Log.{with_replies}
use Rattle.fed_inbox.specs.Delivery.{step_by}
use Rattle.fed_inbox.specs.DeliveryParts.{judgement}
use Rattle.fed_inbox.proofs.Steps.{by_memory}
use Rattle.fed_inbox.proofs.log.Log.take_new.Goals as goal

pub returns-in_err-keep-in-Ok-clause-step : goal.returns-in_err-keep-in-Ok-clause-step
returns-in_err-keep-in-Ok-clause-step g c =
    let old = with_replies (g.S.ReplyStore.kept c.args.store.now) c.args.self.now in
    let j = judgement c.args.judged in
    let step = step_by old j.txn j.comes_to in
    let r = c.from_residual.result in
    subst (λ l. Steps old step (answer_with r) l (fresh_with r)) (sym c.in_err-keep-in-Ok.ensures.err) (by_memory old step r c.from_residual.ensures.1)
