use Rattle.std.proofs.Common.{sym, ◌∙◌}
use Rattle.fed_resolve.proofs.Completed.{check-laid, check-left}
use Rattle.fed_resolve.proofs.checks.check.Goals as goal

pub returns-in_ok-lay_over-clause-ok : goal.returns-in_ok-lay_over-clause-ok
returns-in_ok-lay_over-clause-ok c =
    c.in_ok-lay_over.ensures.ok
    ∙ check-laid c.args.graph.now.stored c.args.state.now c.args.place c.in-Some.stored.now (sym c.in-Some.ensures) c.in_ok-verdict_by.field-0 c.in_ok-verdict_by.ensures
    (sym c.is_ok.ensures.value ∙ c.if-is_ok.true)

pub returns-else-is_ok-clause-ok : goal.returns-else-is_ok-clause-ok
returns-else-is_ok-clause-ok c =
    check-left c.args.graph.now.stored c.args.state.now c.args.place c.in-Some.stored.now (sym c.in-Some.ensures) c.in_ok-verdict_by.field-0 c.in_ok-verdict_by.ensures
    (sym c.is_ok.ensures.value ∙ c.if-is_ok.false)
