use Rattle.std.proofs.Common.{subst}
use Rattle.fed_inbox.specs.declared.refusal.Refusal.TheVariants.{OutOfMemory}
use Rattle.fed_inbox.specs.Delivery.{IsTaken, Refuses}
use Rattle.fed_inbox.proofs.Deliveries.{if_passed_on, whole_without_memory}
use Rattle.fed_inbox.proofs.receiver.Receiver.receive.Goals as goal

pub returns-in_err-judge-clause-err : goal.returns-in_err-judge-clause-err
returns-in_err-judge-clause-err g c =
    let checks = g.K.Keys.checks c.args.keys.now in
    let request = c.args.request.now in
    if_passed_on (λ refusal. Refuses checks c.args.self.now request refusal) OutOfMemory c.from_residual-in_err-judge.result c.from_residual-in_err-judge.ensures.1
    (λ old mine. whole_without_memory checks old request)

pub returns-clause-ok : goal.returns-clause-ok
returns-clause-ok g c = λ old mine answer new fresh taken.
    c.in_ok-delivery.ensures.ok old mine answer new fresh (subst (λ j. IsTaken old j answer new fresh) c.in_ok-judge.ensures taken)
