use Rattle.fed_resolve.proofs.Origins.{entries-come}
use Rattle.fed_resolve.proofs.laws.entries_come_from_the_states.Goals as goal

pub returns : goal.returns
returns c = entries-come
