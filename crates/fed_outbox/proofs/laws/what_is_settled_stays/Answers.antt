use Rattle.fed_outbox.proofs.Kept.{calls_extend}
use Rattle.fed_outbox.proofs.laws.what_is_settled_stays.Goals as goal

pub returns-clause-events : goal.returns-clause-events
returns-clause-events c = λ o calls. (calls_extend o calls).0

pub returns-clause-edus : goal.returns-clause-edus
returns-clause-edus c = λ o calls. (calls_extend o calls).1
