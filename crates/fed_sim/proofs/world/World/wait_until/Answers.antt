use Rattle.fed_sim.specs.WorldParts.{world_of}
use Rattle.fed_sim.proofs.OfRuns.{comes_reached}
use Rattle.fed_sim.proofs.Reaching.{rises}
use Rattle.fed_sim.proofs.world.World.wait_until.Goals as goal

pub invariant_of-self-clause-comes : goal.invariant_of-self-clause-comes
invariant_of-self-clause-comes c =
    comes_reached (world_of c.args.self.now) _ (rises (world_of c.args.self.now) c.args.at_ms c.if-self-at_ms.true c.if-at_ms-gt-MAX_MOMENT.false) c.args.self.now.comes
