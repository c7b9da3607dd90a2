use Rattle.std.proofs.Common.{Bool, true, false, IfOk, ap, subst}
use Rattle.std.specs.FinMap as finite
use Rattle.fed_replies.specs.declared.pieces.Mark.{Mark}
use Rattle.fed_replies.specs.Forms.{IsFormOf}
use Rattle.fed_replies.specs.Pieces.{Content, IsPlainEntry}
use Rattle.fed_replies.proofs.Entering.{fit-entered}
use Rattle.fed_replies.proofs.form.form_once_prepared.Goals as goal

pub returns-then-branch-clause-form : goal.returns-then-branch-clause-form
returns-then-branch-clause-form c =
    let told : IsPlainEntry c.args.pieces.now c.args.reply.now true c.enter_plain.new.self =
    subst (λ (b : Bool). IsPlainEntry c.args.pieces.now c.args.reply.now b c.enter_plain.new.self) c.if-branch.true c.in_ok-enter_plain.ensures.all in
    record {
      verdicts = told.verdicts;
      packable = record { canonical = told.canonical; fit = fit-entered c.args.pieces.now c.enter_plain.new.self (finite.entries told.verdicts) told.entered c.mark-then-branch.ensures.few };
      entered = told.entered;
      start_is = ap (λ (m : Mark). m.ends) c.mark.ensures.mark;
      end_is = ap (λ (m : Mark). m.ends) c.mark-then-branch.ensures.mark;
    }

pub returns-clause-form : goal.returns-clause-form
returns-clause-form c =
    let same : IsPlainEntry c.args.pieces.now c.args.reply.now false c.enter_plain.new.self =
    subst (λ (b : Bool). IsPlainEntry c.args.pieces.now c.args.reply.now b c.enter_plain.new.self) c.if-branch.false c.in_ok-enter_plain.ensures.all in
    subst (λ (d : Content). IfOk c.form_of_read.result (λ form. IsFormOf d c.args.reply.now form c.form_of_read.new.pieces)) same c.form_of_read.ensures.form
