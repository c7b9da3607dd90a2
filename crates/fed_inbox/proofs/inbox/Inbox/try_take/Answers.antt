use Rattle.std.proofs.Common.{◌≡◌, ◌<◌, ◌∙◌, List, None, Some, length, sym, ap, subst, set}
use Rattle.std.specs.List.{position}
use Rattle.fed_inbox.specs.Log.{TakenFrom}
use Rattle.fed_inbox.specs.LogParts.{is_from}
use Rattle.fed_inbox.specs.InboxParts.{state_of}
use Rattle.fed_inbox.specs.Inbox.{Held, log_at}
use Rattle.fed_inbox.specs.AnswerParts.{answer_with, fresh_with}
use Rattle.fed_inbox.specs.Delivery.{IsTaken}
use Rattle.fed_inbox.specs.DeliveryParts.{judgement}
use Rattle.fed_inbox.proofs.Places.{log_missing}
use Rattle.fed_inbox.proofs.Deliveries.{taken_at, taken_nowhere, still_of_receiver}
use Rattle.fed_inbox.proofs.inbox.Inbox.try_take.Goals as goal

pub returns-in_default : goal.returns-in_default
returns-in_default g c =
    let j = judgement c.args.judged in
    let kept = g.S.ReplyStore.kept c.self.inside.store in
    let nowhere : None ≡ position (is_from j.origin) c.self.inside.logs.items = c.in_default.ensures.place ∙ (λ i. position (is_from (c.deref-2.ensures i)) (c.deref.ensures.value i)) in
    taken_nowhere c.args.self.now.state j
    (ap (λ (h : Held). log_at j.origin h.state.logs) (sym c.self.view_is) ∙ log_missing kept j.origin c.self.inside.logs.items nowhere)

pub returns : goal.returns
returns g c =
    let inside = c.self.inside in
    let logs = inside.logs.items in
    let j = judgement c.args.judged in
    let kept = g.S.ReplyStore.kept inside.store in
    let kept' = g.S.ReplyStore.kept c.take.new.store in
    let r = c.take.result in
    let place : Some c.in-Some.place ≡ position (is_from j.origin) logs = c.in-Some.ensures.place ∙ (λ i. position (is_from (c.deref-2.ensures i)) (c.deref.ensures.value i)) in
    let within = subst (λ (ls : List TakenFrom). c.in-Some.place < length ls) c.deref.ensures.value c.in-Some.ensures.within in
    subst (λ (h : Held). IsTaken h.state (judgement c.args.judged) (answer_with r) (state_of inside.receiver.own inside.receiver.rooms kept' (set logs c.in-Some.place c.take.new.self)) (fresh_with r)) c.self.view_is
    (taken_at inside.receiver.own inside.receiver.rooms kept kept' logs j c.in-Some.place c.index_mut.result.now c.take.new.self (answer_with r) (fresh_with r)
    c.self.invariant.order place within c.index_mut.ensures.value c.take.ensures.others c.take.ensures.step)

pub invariant_of-self : goal.invariant_of-self
invariant_of-self g c = still_of_receiver c.self.inside.receiver c.self.inside.logs.items c.in-Some.place c.index_mut.result.now c.take.new.self c.index_mut.ensures.value c.take.ensures.origin c.self.invariant
