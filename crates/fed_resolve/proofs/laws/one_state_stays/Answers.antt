use Rattle.fed_resolve.proofs.Resolved.{one-resolved}
use Rattle.fed_resolve.proofs.laws.one_state_stays.Goals as goal

pub returns : goal.returns
returns c = one-resolved
