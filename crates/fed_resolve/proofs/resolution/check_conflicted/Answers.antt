use Rattle.std.proofs.lemmas.Result.{IfOk-weaker}
use Rattle.fed_resolve.proofs.resolution.check_conflicted.Goals as goal

pub returns : goal.returns
returns c = IfOk-weaker c.check_set.result _ _ (λ state checked. checked c.args.states.now c.requires c.in_ok-set.ensures) c.check_set.ensures
