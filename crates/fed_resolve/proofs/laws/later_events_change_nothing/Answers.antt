use Rattle.fed_resolve.proofs.Ancestry.{later_events}
use Rattle.fed_resolve.proofs.laws.later_events_change_nothing.Goals as goal

pub returns : goal.returns
returns c = later_events
