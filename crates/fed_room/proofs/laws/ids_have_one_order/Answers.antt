use Rattle.fed_room.proofs.ByDepth.{by_depth-one, prev_events-one}
use Rattle.fed_room.proofs.laws.ids_have_one_order.Goals as goal

pub returns : goal.returns
returns c = record { by_depth = by_depth-one; prev_events = prev_events-one }
