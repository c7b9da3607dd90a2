use Rattle.std.proofs.lemmas.Result.{IfOk-weaker, on_err_weaker}
use Rattle.fed_sim.specs.declared.step.Step.TheVariants.{Close}
use Rattle.fed_sim.specs.Offering.{IsClosedFor}
use Rattle.fed_sim.specs.WorldParts.{world_of}
use Rattle.fed_sim.proofs.OfRuns.{comes_by}
use Rattle.fed_sim.proofs.Worlds.{at_none, at_place, comes_at, same_servers}
use Rattle.fed_sim.proofs.world.World.close.Goals as goal

pub returns-in_default-clause-closed : goal.returns-in_default-clause-closed
returns-in_default-clause-closed c = at_none (world_of c.args.self.now) c.args.self.now.servers c.args.server c.place.result c.place.ensures.place c.get_mut.result c.get_mut.ensures.variant c.in_default.is

pub invariant_of-self-2-clause-comes : goal.invariant_of-self-2-clause-comes
invariant_of-self-2-clause-comes c =
    comes_at (world_of c.args.self.now) c.args.self.now.servers c.args.server c.place.result c.place.ensures.place c.get_mut.result c.get_mut.ensures.variant c.in-Some.sender.now c.close.new.self c.in-Some.sender c.in-Some.is c.in-Some.ensures.value (IsClosedFor c.args.dest) c.close.result
    (λ told new does. comes_by (Close c.args.server c.args.dest) (world_of c.args.self.now) told new does) c.close.ensures.closed c.close.ensures.err c.args.self.now.comes

pub returns-clause-closed : goal.returns-clause-closed
returns-clause-closed c = IfOk-weaker c.close.result _ _ (λ told does. at_place (world_of c.args.self.now) c.args.self.now.servers c.args.server c.place.result c.place.ensures.place c.get_mut.result c.get_mut.ensures.variant c.in-Some.sender.now c.close.new.self c.in-Some.sender c.in-Some.is c.in-Some.ensures.value told does) c.close.ensures.closed

pub returns-clause-err : goal.returns-clause-err
returns-clause-err c = on_err_weaker c.close.result (same_servers (world_of c.args.self.now) c.args.self.now.servers c.args.server c.place.result c.place.ensures.place c.get_mut.result c.get_mut.ensures.variant c.in-Some.sender.now c.close.new.self c.in-Some.sender c.in-Some.is c.in-Some.ensures.value) c.close.ensures.err
