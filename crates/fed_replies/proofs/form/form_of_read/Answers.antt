use Rattle.std.proofs.Common.{Bool, true, ap, subst}
use Rattle.std.specs.FinMap as finite
use Rattle.fed_replies.specs.declared.pieces.Mark.{Mark}
use Rattle.fed_replies.specs.Pieces.{IsEntry}
use Rattle.fed_replies.proofs.Entering.{fit-entered}
use Rattle.fed_replies.proofs.form.form_of_read.Goals as goal

pub returns-then-branch-clause-form : goal.returns-then-branch-clause-form
returns-then-branch-clause-form c =
    let verdicts = c.in-Some.verdicts in
    let entered : IsEntry c.args.pieces.now (finite.entries c.in-Some.verdicts) true c.enter_all.new.self =
    subst (λ (b : Bool). IsEntry c.args.pieces.now (finite.entries c.in-Some.verdicts) b c.enter_all.new.self) c.if-branch.true c.in_ok-enter_all.ensures.all in
    record {
      verdicts = verdicts;
      packable = record { canonical = (c.in_ok-verdicts.ensures verdicts).1 c.in-Some.is; fit = fit-entered c.args.pieces.now c.enter_all.new.self (finite.entries verdicts) entered c.mark-then-branch.ensures.few };
      entered = entered;
      start_is = ap (λ (m : Mark). m.ends) c.mark.ensures.mark;
      end_is = ap (λ (m : Mark). m.ends) c.mark-then-branch.ensures.mark;
    }
