use Rattle.std.proofs.Common.{◌≡◌, ◌∙◌, ap, true, arith}
use Rattle.std.proofs.lemmas.Grind.{common_steps}
use Rattle.fed_outbox.specs.Outbox.{can_cut}
use Rattle.fed_outbox.specs.Parts.{outbox_of}
use Rattle.fed_outbox.proofs.Counts.{cut_is}
use Rattle.fed_outbox.proofs.outbox.Outbox.cut_next.Goals as goal

pub returns-clause-cut : goal.returns-clause-cut
returns-clause-cut c =
    let can : can_cut (outbox_of c.self.inside) ≡ true = ap can_cut c.self.view_is ∙ grind (arith, common_steps) in
    rw (← c.self.view_is) (cut_is c.self.inside c.args.now _ _ can (omega arith) (omega arith))
