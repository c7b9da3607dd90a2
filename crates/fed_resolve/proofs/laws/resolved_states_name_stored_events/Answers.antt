use Rattle.fed_resolve.proofs.Named.{named-resolved}
use Rattle.fed_resolve.proofs.laws.resolved_states_name_stored_events.Goals as goal

pub returns : goal.returns
returns c = named-resolved
