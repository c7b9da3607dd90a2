use Rattle.std.proofs.Common.{IfOk, subst}
use Rattle.fed_replies.specs.Forms.{IsFormOf}
use Rattle.fed_replies.specs.Pieces.{Content}
use Rattle.fed_replies.proofs.form.form_of.Goals as goal

pub returns-clause-form : goal.returns-clause-form
returns-clause-form c =
    subst (λ (d : Content). IfOk c.form_once_prepared.result (λ form. IsFormOf d c.args.reply.now form c.form_once_prepared.new.pieces)) c.prepare.ensures c.form_once_prepared.ensures.form
