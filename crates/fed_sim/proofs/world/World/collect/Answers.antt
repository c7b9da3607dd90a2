use Rattle.std.proofs.lemmas.Result.{IfOk-weaker, on_err_weaker}
use Rattle.fed_sim.specs.Steps.{collected}
use Rattle.fed_sim.specs.Ways.{IsOnWay, collecting}
use Rattle.fed_sim.specs.WorldParts.{world_of}
use Rattle.fed_sim.proofs.OfRuns.{comes_moved}
use Rattle.fed_sim.proofs.Worlds.{at_none, at_place, comes_at, same_servers}
use Rattle.fed_sim.proofs.world.World.collect.Goals as goal

pub returns-in_default-clause-collected : goal.returns-in_default-clause-collected
returns-in_default-clause-collected c = at_none (world_of c.args.self.now) c.args.self.now.servers c.args.server c.place.result c.place.ensures.place c.get_mut.result c.get_mut.ensures.variant c.in_default.is

pub invariant_of-self-2-clause-comes : goal.invariant_of-self-2-clause-comes
invariant_of-self-2-clause-comes c =
    comes_at (world_of c.args.self.now) c.args.self.now.servers c.args.server c.place.result c.place.ensures.place c.get_mut.result c.get_mut.ensures.variant c.in-Some.sender.now c.collect.new.self c.in-Some.sender c.in-Some.is c.in-Some.ensures.value (IsOnWay c.args.dest collecting) c.collect.result
    (λ told new does. comes_moved (world_of c.args.self.now) told new (collected c.args.server c.args.dest does)) c.collect.ensures.collected c.collect.ensures.err c.args.self.now.comes

pub returns-clause-collected : goal.returns-clause-collected
returns-clause-collected c = IfOk-weaker c.collect.result _ _ (λ told does. at_place (world_of c.args.self.now) c.args.self.now.servers c.args.server c.place.result c.place.ensures.place c.get_mut.result c.get_mut.ensures.variant c.in-Some.sender.now c.collect.new.self c.in-Some.sender c.in-Some.is c.in-Some.ensures.value told does) c.collect.ensures.collected

pub returns-clause-err : goal.returns-clause-err
returns-clause-err c = on_err_weaker c.collect.result (same_servers (world_of c.args.self.now) c.args.self.now.servers c.args.server c.place.result c.place.ensures.place c.get_mut.result c.get_mut.ensures.variant c.in-Some.sender.now c.collect.new.self c.in-Some.sender c.in-Some.is c.in-Some.ensures.value) c.collect.ensures.err
