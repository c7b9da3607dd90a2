use Rattle.std.proofs.Common.{sym, ap, ◌∙◌}
use Rattle.fed_hub.specs.Finishing.{first_fault}
use Rattle.fed_hub.proofs.finishing.may_finish.Goals as goal

pub returns-then-not-is_shut : goal.returns-then-not-is_shut
returns-then-not-is_shut g c = ap (λ shut. first_fault shut c.args.counted) (sym c.if-not-is_shut.true ∙ c.is_shut.ensures)

pub returns : goal.returns
returns g c = ap (λ shut. first_fault shut c.args.counted) (sym c.if-not-is_shut.false ∙ c.is_shut.ensures)
