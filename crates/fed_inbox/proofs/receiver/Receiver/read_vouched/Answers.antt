use Rattle.std.proofs.Common.{◌≡◌, ◌∙◌, Err, true, false, arith, refl, sym, subst}
use Rattle.fed_event.specs.Keys.{Checks}
use Rattle.fed_txn.specs.Reading.{body_of}
use Rattle.fed_inbox.specs.declared.refusal.Refusal.TheVariants.{OutOfMemory, BadSignature, OriginDiffers}
use Rattle.fed_inbox.specs.Refusal.{refusal_of}
use Rattle.fed_inbox.specs.LookUps.{is_taken_from}
use Rattle.fed_inbox.specs.Answer.{request_by, names_other}
use Rattle.fed_inbox.specs.Delivery.{IsTaken, judged_of, RefusesBody}
use Rattle.fed_inbox.proofs.Steps.{body_refused, unsigned_refused}
use Rattle.fed_inbox.proofs.Deliveries.{settled_body, other_refused, unlisted_refused, listed_refused, if_passed_on, without_memory, same_delivery}
use Rattle.fed_inbox.proofs.receiver.Receiver.read_vouched.Goals as goal

pub returns-then-not-takes_from-clause-err : goal.returns-then-not-takes_from-clause-err
returns-then-not-takes_from-clause-err g c =
    let r = c.args.self.now in
    let origin = c.args.origin.now in
    let txn = c.args.txn.now in
    let body = c.args.body.now in
    let signed = g.V.Vouch.vouches c.args.voucher.now in
    λ checks old mine. unlisted_refused checks old origin txn body signed r mine (sym c.takes_from.ensures ∙ c.if-not-takes_from.true)

pub returns-in_err-body-clause-err : goal.returns-in_err-body-clause-err
returns-in_err-body-clause-err g c =
    let r = c.args.self.now in
    let origin = c.args.origin.now in
    let txn = c.args.txn.now in
    let body = c.args.body.now in
    let signed = g.V.Vouch.vouches c.args.voucher.now in
    let listed : is_taken_from r.own r.servers origin ≡ true = sym c.takes_from.ensures ∙ c.if-not-takes_from.false in
    let fault = c.in_err-body.field-0.0 in
    if_passed_on (λ refusal. (checks : Checks) → RefusesBody checks r (request_by origin txn body signed) refusal) (refusal_of fault) c.from_residual.result c.from_residual.ensures.1
    (λ checks old mine. listed_refused checks old origin txn body signed r mine (refusal_of fault) listed
    (λ log there. body_refused checks old.rooms log txn signed (body_of body) fault (Err (refusal_of fault)) c.in_err-body.ensures.fault refl))

pub returns-in_err-vouch-clause-err : goal.returns-in_err-vouch-clause-err
returns-in_err-vouch-clause-err g c =
    let request = request_by c.args.origin.now c.args.txn.now c.args.body.now (g.V.Vouch.vouches c.args.voucher.now) in
    if_passed_on (λ refusal. (checks : Checks) → RefusesBody checks c.args.self.now request refusal) OutOfMemory c.from_residual-in_err-vouch.result c.from_residual-in_err-vouch.ensures.1
    (λ checks old mine. without_memory checks old request)

pub returns-then-not-branch-clause-err : goal.returns-then-not-branch-clause-err
returns-then-not-branch-clause-err g c =
    let r = c.args.self.now in
    let origin = c.args.origin.now in
    let txn = c.args.txn.now in
    let body = c.args.body.now in
    let signed = g.V.Vouch.vouches c.args.voucher.now in
    let listed : is_taken_from r.own r.servers origin ≡ true = sym c.takes_from.ensures ∙ c.if-not-takes_from.false in
    let unsigned : signed c.in_ok-body.body ≡ false = sym c.in_ok-vouch.ensures ∙ grind arith in
    λ checks old mine. listed_refused checks old origin txn body signed r mine BadSignature listed
    (λ log there. unsigned_refused checks old.rooms log txn signed (body_of body) c.in_ok-body.body c.in_ok-body.ensures.ok unsigned)

pub returns-then-names_other_origin-clause-err : goal.returns-then-names_other_origin-clause-err
returns-then-names_other_origin-clause-err g c =
    let r = c.args.self.now in
    let origin = c.args.origin.now in
    let txn = c.args.txn.now in
    let body = c.args.body.now in
    let signed = g.V.Vouch.vouches c.args.voucher.now in
    let listed : is_taken_from r.own r.servers origin ≡ true = sym c.takes_from.ensures ∙ c.if-not-takes_from.false in
    let vouched : signed c.in_ok-body.body ≡ true = sym c.in_ok-vouch.ensures ∙ grind arith in
    let other : names_other c.in_ok-body.body origin ≡ true = sym c.names_other_origin.ensures ∙ c.if-names_other_origin.true in
    λ checks old mine. listed_refused checks old origin txn body signed r mine OriginDiffers listed
    (λ log there. other_refused checks old origin txn body signed c.in_ok-body.body c.in_ok-body.ensures.ok log there vouched other)

pub returns-in_err-origin-clause-err : goal.returns-in_err-origin-clause-err
returns-in_err-origin-clause-err g c =
    let request = request_by c.args.origin.now c.args.txn.now c.args.body.now (g.V.Vouch.vouches c.args.voucher.now) in
    if_passed_on (λ refusal. (checks : Checks) → RefusesBody checks c.args.self.now request refusal) OutOfMemory c.from_residual-in_err-origin.result c.from_residual-in_err-origin.ensures.1
    (λ checks old mine. without_memory checks old request)

pub returns-in_err-txn-clause-err : goal.returns-in_err-txn-clause-err
returns-in_err-txn-clause-err g c =
    let request = request_by c.args.origin.now c.args.txn.now c.args.body.now (g.V.Vouch.vouches c.args.voucher.now) in
    if_passed_on (λ refusal. (checks : Checks) → RefusesBody checks c.args.self.now request refusal) OutOfMemory c.from_residual-in_err-txn.result c.from_residual-in_err-txn.ensures.1
    (λ checks old mine. without_memory checks old request)

pub returns-clause-ok : goal.returns-clause-ok
returns-clause-ok g c =
    let r = c.args.self.now in
    let origin = c.args.origin.now in
    let txn = c.args.txn.now in
    let body = c.args.body.now in
    let signed = g.V.Vouch.vouches c.args.voucher.now in
    let d = c.in_ok-body.body in
    let vouched : signed d ≡ true = sym c.in_ok-vouch.ensures ∙ grind arith in
    let own : names_other d origin ≡ false = sym c.names_other_origin.ensures ∙ c.if-names_other_origin.false in
    λ checks old mine answer new fresh taken.
    settled_body checks old origin txn body signed d c.in_ok-body.ensures.ok vouched own answer new fresh
    (subst (λ j. IsTaken old j answer new fresh) (λ i. judged_of checks (sym mine.rooms i) (same_delivery d c.in_ok-origin.ensures.ok c.in_ok-txn.ensures.ok i)) taken)
