use Rattle.fed_resolve.proofs.Resolved.{agreed-stays}
use Rattle.fed_resolve.proofs.laws.agreed_keys_stay.Goals as goal

pub returns : goal.returns
returns c = agreed-stays
