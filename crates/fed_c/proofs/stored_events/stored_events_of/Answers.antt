use Rattle.fed_json.specs.Items.{left}
use Rattle.fed_c.proofs.StoredEvents.{added_at_once}
use Rattle.fed_c.proofs.stored_events.stored_events_of.Goals as goal

pub loop-value-init : goal.loop-value-init
loop-value-init c = let whole = added_at_once c.args.version c.args.rejected.now (left c.args.values) in cc
