use Rattle.std.proofs.Common.{ℕ, List, sym, subst, ◌∙◌}
use Rattle.fed_inbox.specs.Answer.{request_of, IsAnswered}
use Rattle.fed_inbox.specs.DeliveryParts.{delivered}
use Rattle.fed_hub_serving.proofs.Repeats.{nothing, stays, is_kept}
use Rattle.fed_hub_serving.proofs.answering.kept_reply.Goals as goal

pub returns-then-status-ne200-clause-same : goal.returns-then-status-ne200-clause-same
returns-then-status-ne200-clause-same g c =
    let checks = g.K.Keys.checks c.args.keys.now in
    let old = c.args.inbox.now.state in
    let r = c.answer_body-reply.result in
    let new = c.answer_body-reply.new.self in
    stays checks old (delivered c.args.delivery.now) r new.state new.fresh
    (subst (λ (y : List ℕ × List ℕ). IsAnswered checks old (request_of y.0 y.1 nothing) r new.state new.fresh) (λ i. (c.origin.ensures i, c.txn.ensures i)) c.answer_body-reply.ensures.answered)

pub returns-in_err-copy-clause-same : goal.returns-in_err-copy-clause-same
returns-in_err-copy-clause-same g c =
    let checks = g.K.Keys.checks c.args.keys.now in
    let old = c.args.inbox.now.state in
    let r = c.answer_body-reply.result in
    let new = c.answer_body-reply.new.self in
    stays checks old (delivered c.args.delivery.now) r new.state new.fresh
    (subst (λ (y : List ℕ × List ℕ). IsAnswered checks old (request_of y.0 y.1 nothing) r new.state new.fresh) (λ i. (c.origin.ensures i, c.txn.ensures i)) c.answer_body-reply.ensures.answered)

pub returns-clause-same : goal.returns-clause-same
returns-clause-same g c =
    let checks = g.K.Keys.checks c.args.keys.now in
    let old = c.args.inbox.now.state in
    let r = c.answer_body-reply.result in
    let new = c.answer_body-reply.new.self in
    stays checks old (delivered c.args.delivery.now) r new.state new.fresh
    (subst (λ (y : List ℕ × List ℕ). IsAnswered checks old (request_of y.0 y.1 nothing) r new.state new.fresh) (λ i. (c.origin.ensures i, c.txn.ensures i)) c.answer_body-reply.ensures.answered)

pub returns-clause-kept : goal.returns-clause-kept
returns-clause-kept g c =
    let checks = g.K.Keys.checks c.args.keys.now in
    let old = c.args.inbox.now.state in
    let r = c.answer_body-reply.result in
    let new = c.answer_body-reply.new.self in
    is_kept checks old (delivered c.args.delivery.now) r new.state new.fresh
    (subst (λ (y : List ℕ × List ℕ). IsAnswered checks old (request_of y.0 y.1 nothing) r new.state new.fresh) (λ i. (c.origin.ensures i, c.txn.ensures i)) c.answer_body-reply.ensures.answered)
    (sym c.status.ensures ∙ c.if-status-ne200.false)
