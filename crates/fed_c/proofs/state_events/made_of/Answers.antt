use Rattle.fed_c.proofs.LaidEvents.{made_at_once}
use Rattle.fed_c.proofs.state_events.made_of.Goals as goal

pub loop-event-init : goal.loop-event-init
loop-event-init c = let whole = made_at_once c.args.events.now in cc
