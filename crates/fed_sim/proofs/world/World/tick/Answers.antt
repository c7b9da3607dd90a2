use Rattle.std.proofs.Common.{arith}
use Rattle.fed_sim.specs.WorldParts.{world_of}
use Rattle.fed_sim.proofs.OfRuns.{comes_moved}
use Rattle.fed_sim.proofs.Reaching.{ticks}
use Rattle.fed_sim.proofs.world.World.tick.Goals as goal

pub invariant_of-self-clause-comes : goal.invariant_of-self-clause-comes
invariant_of-self-clause-comes c =
    let w = world_of c.args.self.now in
    comes_moved w _ _ (ticks w c.args.ms (omega (arith, c.if-self-ms.false, c.args.self.now.within))) c.args.self.now.comes
