use Rattle.std.proofs.Common.{◌<◌, sym, subst}
use Rattle.fed_hub.proofs.hub.Hub.run_room.Goals as goal

pub at-room-requires : goal.at-room-requires
at-room-requires g c = subst (λ n. c.room.result < n) (sym c.self.invariant.8.each_wire) c.room.ensures.within
