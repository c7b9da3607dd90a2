use Rattle.std.proofs.Common.{arith}
use Rattle.fed_journal.specs.Lane.{reached}
use Rattle.fed_journal.proofs.Lanes.{not_yet_changed, next_changed}
use Rattle.fed_journal.proofs.lane.reach_lanes.Goals as goal

pub reach-requires-clause-room : goal.reach-requires-clause-room
reach-requires-clause-room c =
    (c.requires.room _ _ (not_yet_changed (reached c.args.kind c.args.place) c.args.dests.now c.args.lanes.now c.loop-dest.lanes c.loop-dest.dest-index c.dest-item.result c.place.result _ c.requires.rising (omega arith) c.dest-item.is c.place.ensures.place (omega arith) c.loop-dest.invariant)).0

pub reach-requires-clause-placed : goal.reach-requires-clause-placed
reach-requires-clause-placed c =
    (c.requires.room _ _ (not_yet_changed (reached c.args.kind c.args.place) c.args.dests.now c.args.lanes.now c.loop-dest.lanes c.loop-dest.dest-index c.dest-item.result c.place.result _ c.requires.rising (omega arith) c.dest-item.is c.place.ensures.place (omega arith) c.loop-dest.invariant)).1

pub loop-dest-preserved : goal.loop-dest-preserved
loop-dest-preserved c =
    next_changed (reached c.args.kind c.args.place) c.args.dests.now c.args.lanes.now c.loop-dest.lanes c.loop-dest.dest-index c.dest-item.result c.place.result _ c.requires.rising (omega arith) c.dest-item.is c.place.ensures.place (omega arith) c.loop-dest.invariant _ c.reach.ensures
