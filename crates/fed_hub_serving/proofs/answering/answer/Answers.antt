use Rattle.std.proofs.Common.{◌≡◌, Result, Ok, Err, OnErr, sym, ◌∙◌}
use Rattle.fed_hub_serving.proofs.Takes.{same_at_500, same_unless_first}
use Rattle.fed_hub_serving.proofs.answering.answer.Goals as goal

-- what holds in any case holds on an error
on_error : {T E P : Type 0} (r : Result T E) → P → OnErr r P
on_error (Ok x) p = tt
on_error (Err e) p = p

pub returns-then-status-eq500-clause-err : goal.returns-then-status-eq500-clause-err
returns-then-status-eq500-clause-err g c =
    let r = c.take-reply.result in
    same_at_500 c.args.inbox.now.state r.0 c.take-reply.new.inbox.state r.1.items c.args.comes_to c.take-reply.ensures (sym c.status.ensures ∙ c.if-status-eq500.true)

pub returns-in_err-copy-clause-err : goal.returns-in_err-copy-clause-err
returns-in_err-copy-clause-err g c =
    let r = c.take-reply.result in
    on_error c.from_residual.result
    (same_unless_first c.args.inbox.now.state r.0 c.take-reply.new.inbox.state r.1.items c.args.comes_to c.take-reply.ensures (λ same. c.in_err-copy.ensures.differ (same ∙ sym c.requires)))
