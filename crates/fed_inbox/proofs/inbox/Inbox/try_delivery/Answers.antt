use Rattle.std.proofs.Common.{◌≡◌, ◌<◌, ◌∙◌, List, None, Some, length, sym, ap, subst, set}
use Rattle.std.specs.List.{position}
use Rattle.fed_inbox.specs.Log.{TakenFrom}
use Rattle.fed_inbox.specs.LogParts.{is_from}
use Rattle.fed_inbox.specs.InboxParts.{state_of}
use Rattle.fed_inbox.specs.Inbox.{Held, log_at}
use Rattle.fed_inbox.specs.AnswerParts.{answer_with, fresh_with}
use Rattle.fed_inbox.specs.Delivery.{IsTaken, judged_of}
use Rattle.fed_inbox.specs.DeliveryParts.{delivered}
use Rattle.fed_inbox.proofs.Places.{log_missing}
use Rattle.fed_inbox.proofs.Deliveries.{taken_at, taken_nowhere, still_of_receiver}
use Rattle.fed_inbox.proofs.inbox.Inbox.try_delivery.Goals as goal

pub returns-in_default : goal.returns-in_default
returns-in_default g c =
    let j = judged_of (g.K.Keys.checks c.args.keys.now) c.args.self.now.state.rooms (delivered c.args.delivery) in
    let kept = g.S.ReplyStore.kept c.self.inside.store in
    let nowhere : None ≡ position (is_from j.origin) c.self.inside.logs.items = c.in_default.ensures.place ∙ (λ i. position (is_from (c.origin.ensures i)) (c.deref.ensures.value i)) in
    taken_nowhere c.args.self.now.state j
    (ap (λ (h : Held). log_at j.origin h.state.logs) (sym c.self.view_is) ∙ log_missing kept j.origin c.self.inside.logs.items nowhere)

pub returns : goal.returns
returns g c =
    let inside = c.self.inside in
    let logs = inside.logs.items in
    let j = judged_of (g.K.Keys.checks c.args.keys.now) inside.receiver.rooms (delivered c.args.delivery) in
    let kept = g.S.ReplyStore.kept inside.store in
    let kept' = g.S.ReplyStore.kept c.answer.new.store in
    let r = c.answer.result in
    let place : Some c.in-Some.place ≡ position (is_from j.origin) logs = c.in-Some.ensures.place ∙ (λ i. position (is_from (c.origin.ensures i)) (c.deref.ensures.value i)) in
    let within = subst (λ (ls : List TakenFrom). c.in-Some.place < length ls) c.deref.ensures.value c.in-Some.ensures.within in
    subst (λ (h : Held). IsTaken h.state (judged_of (g.K.Keys.checks c.args.keys.now) h.state.rooms (delivered c.args.delivery)) (answer_with r) (state_of inside.receiver.own inside.receiver.rooms kept' (set logs c.in-Some.place c.answer.new.self)) (fresh_with r)) c.self.view_is
    (taken_at inside.receiver.own inside.receiver.rooms kept kept' logs j c.in-Some.place c.index_mut.result.now c.answer.new.self (answer_with r) (fresh_with r)
    c.self.invariant.order place within c.index_mut.ensures.value c.answer.ensures.others c.answer.ensures.step)

pub invariant_of-self : goal.invariant_of-self
invariant_of-self g c = still_of_receiver c.self.inside.receiver c.self.inside.logs.items c.in-Some.place c.index_mut.result.now c.answer.new.self c.index_mut.ensures.value c.answer.ensures.origin c.self.invariant
