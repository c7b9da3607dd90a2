use Rattle.std.proofs.Common.{arith, ◌≡◌, true, refl, sym, ap, ◌∙◌}
use Rattle.std.proofs.lemmas.Grind.{common_steps}
use Rattle.fed_outbox.specs.Outbox.{OutboxState, is_due}
use Rattle.fed_outbox.specs.Seen.{seen}
use Rattle.fed_hub.proofs.sending.act_of.Goals as goal

pub returns-clause-next : goal.returns-clause-next
returns-clause-next g c =
    let due : is_due c.cut.new.outbox c.args.now ≡ true = grind (arith, common_steps) in
    (due, (seen c.in-Some.transaction, ap (λ (o : OutboxState). o.unanswered) (sym c.outbox-outbox.ensures) ∙ sym c.in-Some.ensures.value, refl, c.in_ok-request.ensures.exact))
