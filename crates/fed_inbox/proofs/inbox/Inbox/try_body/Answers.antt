use Rattle.std.proofs.Common.{subst}
use Rattle.fed_inbox.specs.declared.refusal.Refusal.TheVariants.{ServerNotListed, BodyTooLarge}
use Rattle.fed_inbox.specs.Answer.{request_of, IsAnswered}
use Rattle.fed_inbox.specs.AnswerParts.{answer_with, fresh_with}
use Rattle.fed_inbox.specs.Inbox.{Held}
use Rattle.fed_inbox.specs.Receiver.{IsInboxOf}
use Rattle.fed_inbox.specs.Delivery.{IsTaken, judged_of}
use Rattle.fed_inbox.specs.DeliveryParts.{delivered}
use Rattle.fed_inbox.proofs.Deliveries.{inbox_of, passed_on, refused_is, no_refusal, not_taken_from, taken_from}
use Rattle.fed_inbox.proofs.inbox.Inbox.try_body.Goals as goal

pub returns-in_err-delivery-clause-tried : goal.returns-in_err-delivery-clause-tried
returns-in_err-delivery-clause-tried g c =
    let s = c.args.self.now.state in
    let r = c.self.inside.receiver in
    let mine : IsInboxOf r s = subst (λ (h : Held). IsInboxOf r h.state) c.self.view_is (inbox_of r (g.S.ReplyStore.kept c.self.inside.store) c.self.inside.logs.items c.self.invariant) in
    let checks = g.K.Keys.checks c.args.keys.now in
    passed_on (λ a f. IsAnswered checks s (request_of c.args.origin.now c.args.txn.now c.args.body.now) a s f) c.in_err-delivery.field-0.0 c.from_residual.result c.from_residual.ensures.1
    (c.in_err-delivery.ensures.err checks s mine)

pub returns-in_err-delivery-clause-unlisted : goal.returns-in_err-delivery-clause-unlisted
returns-in_err-delivery-clause-unlisted g c none =
    let s = c.args.self.now.state in
    let r = c.self.inside.receiver in
    let mine : IsInboxOf r s = subst (λ (h : Held). IsInboxOf r h.state) c.self.view_is (inbox_of r (g.S.ReplyStore.kept c.self.inside.store) c.self.inside.logs.items c.self.invariant) in
    refused_is c.in_err-delivery.field-0.0 ServerNotListed c.from_residual.result c.from_residual.ensures.1 (c.in_err-delivery.ensures.unlisted (not_taken_from r s mine c.args.origin.now none))

pub returns-in_err-delivery-clause-large : goal.returns-in_err-delivery-clause-large
returns-in_err-delivery-clause-large g c some long =
    let s = c.args.self.now.state in
    let r = c.self.inside.receiver in
    let mine : IsInboxOf r s = subst (λ (h : Held). IsInboxOf r h.state) c.self.view_is (inbox_of r (g.S.ReplyStore.kept c.self.inside.store) c.self.inside.logs.items c.self.invariant) in
    refused_is c.in_err-delivery.field-0.0 BodyTooLarge c.from_residual.result c.from_residual.ensures.1 (c.in_err-delivery.ensures.large (taken_from r s mine c.args.origin.now some) long)

pub returns-clause-tried : goal.returns-clause-tried
returns-clause-tried g c =
    let s = c.args.self.now.state in
    let r = c.self.inside.receiver in
    let mine : IsInboxOf r s = subst (λ (h : Held). IsInboxOf r h.state) c.self.view_is (inbox_of r (g.S.ReplyStore.kept c.self.inside.store) c.self.inside.logs.items c.self.invariant) in
    let checks = g.K.Keys.checks c.args.keys.now in
    let x = c.try_delivery.result in
    let now = c.try_delivery.new.self.state in
    c.in_ok-delivery.ensures.ok checks s mine (answer_with x) now (fresh_with x)
    (subst (λ rooms. IsTaken s (judged_of checks rooms (delivered c.in_ok-delivery.delivery)) (answer_with x) now (fresh_with x)) mine.rooms c.try_delivery.ensures)

pub returns-clause-unlisted : goal.returns-clause-unlisted
returns-clause-unlisted g c none =
    let s = c.args.self.now.state in
    let r = c.self.inside.receiver in
    let mine : IsInboxOf r s = subst (λ (h : Held). IsInboxOf r h.state) c.self.view_is (inbox_of r (g.S.ReplyStore.kept c.self.inside.store) c.self.inside.logs.items c.self.invariant) in
    absurd (no_refusal c.in_ok-delivery.delivery ServerNotListed (c.in_ok-delivery.ensures.unlisted (not_taken_from r s mine c.args.origin.now none)))
