use Rattle.fed_sim.specs.declared.step.Step.TheVariants.{Failed}
use Rattle.fed_sim.specs.WorldParts.{world_of}
use Rattle.fed_sim.proofs.OfRuns.{comes_by}
use Rattle.fed_sim.proofs.Worlds.{at_none, at_place}
use Rattle.fed_sim.proofs.world.World.failed.Goals as goal

pub returns-in_default : goal.returns-in_default
returns-in_default c = at_none (world_of c.args.self.now) c.args.self.now.servers c.args.server c.place.result c.place.ensures.place c.get_mut.result c.get_mut.ensures.variant c.in_default.is

pub invariant_of-self-2-clause-comes : goal.invariant_of-self-2-clause-comes
invariant_of-self-2-clause-comes c = comes_by (Failed c.args.server c.args.dest) (world_of c.args.self.now) c.failed.result _ ((at_place (world_of c.args.self.now) c.args.self.now.servers c.args.server c.place.result c.place.ensures.place c.get_mut.result c.get_mut.ensures.variant c.in-Some.sender.now c.failed.new.self c.in-Some.sender c.in-Some.is c.in-Some.ensures.value c.failed.result c.failed.ensures)) c.args.self.now.comes

pub returns : goal.returns
returns c = at_place (world_of c.args.self.now) c.args.self.now.servers c.args.server c.place.result c.place.ensures.place c.get_mut.result c.get_mut.ensures.variant c.in-Some.sender.now c.failed.new.self c.in-Some.sender c.in-Some.is c.in-Some.ensures.value c.failed.result c.failed.ensures
