use Rattle.fed_event.specs.EventIds.{ids_left}
use Rattle.fed_c.proofs.StoredEvents.{named_at_once}
use Rattle.fed_c.proofs.auth_events.named.Goals as goal

pub loop-id-init : goal.loop-id-init
loop-id-init c = let whole = named_at_once c.args.given.now (ids_left c.args.ids) in cc
