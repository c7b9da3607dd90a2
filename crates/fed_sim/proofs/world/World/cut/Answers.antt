use Rattle.fed_sim.specs.Steps.{cut}
use Rattle.fed_sim.specs.WorldParts.{world_of}
use Rattle.fed_sim.proofs.OfRuns.{comes_moved}
use Rattle.fed_sim.proofs.Worlds.{at_none, at_place}
use Rattle.fed_sim.proofs.world.World.cut.Goals as goal

pub returns-in_default-clause-cut : goal.returns-in_default-clause-cut
returns-in_default-clause-cut c = at_none (world_of c.args.self.now) c.args.self.now.servers c.args.server c.place.result c.place.ensures.place c.get_mut.result c.get_mut.ensures.variant c.in_default.is

pub invariant_of-self-2-clause-comes : goal.invariant_of-self-2-clause-comes
invariant_of-self-2-clause-comes c = comes_moved (world_of c.args.self.now) c.cut.result _ (cut c.args.server c.args.dest (at_place (world_of c.args.self.now) c.args.self.now.servers c.args.server c.place.result c.place.ensures.place c.get_mut.result c.get_mut.ensures.variant c.in-Some.sender.now c.cut.new.self c.in-Some.sender c.in-Some.is c.in-Some.ensures.value c.cut.result c.cut.ensures)) c.args.self.now.comes

pub returns-clause-cut : goal.returns-clause-cut
returns-clause-cut c = at_place (world_of c.args.self.now) c.args.self.now.servers c.args.server c.place.result c.place.ensures.place c.get_mut.result c.get_mut.ensures.variant c.in-Some.sender.now c.cut.new.self c.in-Some.sender c.in-Some.is c.in-Some.ensures.value c.cut.result c.cut.ensures
