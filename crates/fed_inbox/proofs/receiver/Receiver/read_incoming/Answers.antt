use Rattle.std.proofs.Common.{◌≡◌, ◌∙◌, ap, subst}
use Rattle.fed_event.specs.Keys.{Checks}
use Rattle.fed_inbox.specs.Answer.{SendRequest, request_by}
use Rattle.fed_inbox.specs.WholeRequest.{asked, is_signed_by}
use Rattle.fed_inbox.specs.IncomingParts.{heading_of}
use Rattle.fed_inbox.specs.Receiver.{ReceiverState}
use Rattle.fed_inbox.specs.Delivery.{judged_of, SettlesBody}
use Rattle.fed_inbox.specs.DeliveryParts.{delivered}
use Rattle.fed_inbox.proofs.Deliveries.{if_then}
use Rattle.fed_inbox.proofs.receiver.Receiver.read_incoming.Goals as goal

pub returns-clause-ok : goal.returns-clause-ok
returns-clause-ok g c =
    let checks = g.K.Keys.checks c.args.keys.now in
    let r = c.args.self.now in
    let sent = c.args.request.now in
    let header = c.args.incoming.now.header in
    let own = c.as_str.ensures.text ∙ ap (λ (s : ReceiverState). s.own) c.self.view_is in
    let asks : SendRequest = request_by c.origin-origin.result.now c.deref.result.now c.body.result.now (is_signed_by checks c.as_str.result.now sent header) in
    let same : asks ≡ asked checks r.own sent (heading_of c.args.incoming.now) =
    λ i. request_by (c.origin-origin.ensures i) (c.deref.ensures i) (c.body.ensures i) (is_signed_by checks (own i) sent header) in
    if_then (λ d. (each : Checks) → SettlesBody each r asks (judged_of each r.rooms (delivered d)))
    (λ d. SettlesBody checks r (asked checks r.own sent (heading_of c.args.incoming.now)) (judged_of checks r.rooms (delivered d))) c.read_vouched.result
    (λ d settles. subst (λ (q : SendRequest). SettlesBody checks r q (judged_of checks r.rooms (delivered d))) same (settles checks)) c.read_vouched.ensures.ok
