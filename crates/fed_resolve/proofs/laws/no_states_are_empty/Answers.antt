use Rattle.fed_resolve.proofs.Resolved.{none-resolved}
use Rattle.fed_resolve.proofs.laws.no_states_are_empty.Goals as goal

pub returns : goal.returns
returns c = none-resolved
