use Rattle.fed_resolve.proofs.SameStates.{any_order}
use Rattle.fed_resolve.proofs.laws.states_in_any_order.Goals as goal

pub returns : goal.returns
returns c = any_order
