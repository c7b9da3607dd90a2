use Rattle.std.proofs.Common.{Ok, subst}
use Rattle.fed_inbox.specs.WholeRequest.{IsReadAs, asked}
use Rattle.fed_inbox.specs.IncomingParts.{IsReadFault, heading_of}
use Rattle.fed_inbox.specs.Delivery.{judged_of, Settles, Refuses, SettlesBody, RefusesBody}
use Rattle.fed_inbox.specs.DeliveryParts.{delivered}
use Rattle.fed_inbox.proofs.Deliveries.{settled_read, refused_read, refused_first, if_passed_on, if_then, err_then}
use Rattle.fed_inbox.proofs.receiver.Receiver.read.Goals as goal

pub returns-in_err-incoming-clause-err : goal.returns-in_err-incoming-clause-err
returns-in_err-incoming-clause-err g c =
    let checks = g.K.Keys.checks c.args.keys.now in
    let r = c.args.self.now in
    let request = c.args.request.now in
    let refusal = c.in_err-incoming.field-0.0 in
    if_passed_on (λ e. Refuses checks r request e) refusal c.from_residual.result c.from_residual.ensures.1
    (refused_first checks r request refusal (subst (λ own. IsReadFault own request refusal) c.own.ensures c.in_err-incoming.ensures.fault))

pub returns-clause-ok : goal.returns-clause-ok
returns-clause-ok g c =
    let checks = g.K.Keys.checks c.args.keys.now in
    let r = c.args.self.now in
    let request = c.args.request.now in
    let h = heading_of c.in_ok-incoming.incoming in
    let reads = subst (λ own. IsReadAs own request (Ok h)) c.own.ensures c.in_ok-incoming.ensures.ok in
    if_then (λ d. SettlesBody checks r (asked checks r.own request h) (judged_of checks r.rooms (delivered d))) (λ d. Settles checks r request (judged_of checks r.rooms (delivered d))) c.read_incoming.result
    (λ d settles. settled_read checks r request h (judged_of checks r.rooms (delivered d)) reads settles) c.read_incoming.ensures.ok

pub returns-clause-err : goal.returns-clause-err
returns-clause-err g c =
    let checks = g.K.Keys.checks c.args.keys.now in
    let r = c.args.self.now in
    let request = c.args.request.now in
    let h = heading_of c.in_ok-incoming.incoming in
    let reads = subst (λ own. IsReadAs own request (Ok h)) c.own.ensures c.in_ok-incoming.ensures.ok in
    err_then (λ e. RefusesBody checks r (asked checks r.own request h) e) (λ e. Refuses checks r request e) c.read_incoming.result
    (λ e refuses. refused_read checks r request h e reads refuses) c.read_incoming.ensures.err
