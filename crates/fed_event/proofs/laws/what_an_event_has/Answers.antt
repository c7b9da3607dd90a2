use Rattle.fed_event.proofs.Events.{is_event}
use Rattle.fed_event.proofs.laws.what_an_event_has.Goals as goal

pub returns : goal.returns
returns c = is_event
