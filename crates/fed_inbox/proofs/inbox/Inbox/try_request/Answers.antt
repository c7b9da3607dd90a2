use Rattle.std.proofs.Common.{subst}
use Rattle.fed_inbox.specs.AnswerParts.{answer_with, fresh_with}
use Rattle.fed_inbox.specs.Inbox.{Held}
use Rattle.fed_inbox.specs.WholeRequest.{IsAnsweredWhole}
use Rattle.fed_inbox.specs.Receiver.{IsInboxOf}
use Rattle.fed_inbox.specs.Delivery.{IsTaken, judged_of}
use Rattle.fed_inbox.specs.DeliveryParts.{delivered}
use Rattle.fed_inbox.proofs.Deliveries.{inbox_of, passed_on}
use Rattle.fed_inbox.proofs.inbox.Inbox.try_request.Goals as goal

pub returns-in_err-delivery-clause-tried : goal.returns-in_err-delivery-clause-tried
returns-in_err-delivery-clause-tried g c =
    let s = c.args.self.now.state in
    let r = c.self.inside.receiver in
    let mine : IsInboxOf r s = subst (λ (h : Held). IsInboxOf r h.state) c.self.view_is (inbox_of r (g.S.ReplyStore.kept c.self.inside.store) c.self.inside.logs.items c.self.invariant) in
    passed_on (λ a f. IsAnsweredWhole (g.K.Keys.checks c.args.keys.now) s c.args.request.now a s f) c.in_err-delivery.field-0.0 c.from_residual.result c.from_residual.ensures.1
    (c.in_err-delivery.ensures.err s mine)

pub returns-clause-tried : goal.returns-clause-tried
returns-clause-tried g c =
    let s = c.args.self.now.state in
    let r = c.self.inside.receiver in
    let mine : IsInboxOf r s = subst (λ (h : Held). IsInboxOf r h.state) c.self.view_is (inbox_of r (g.S.ReplyStore.kept c.self.inside.store) c.self.inside.logs.items c.self.invariant) in
    let checks = g.K.Keys.checks c.args.keys.now in
    let x = c.try_delivery.result in
    let now = c.try_delivery.new.self.state in
    c.in_ok-delivery.ensures.ok s mine (answer_with x) now (fresh_with x)
    (subst (λ rooms. IsTaken s (judged_of checks rooms (delivered c.in_ok-delivery.delivery)) (answer_with x) now (fresh_with x)) mine.rooms c.try_delivery.ensures)
