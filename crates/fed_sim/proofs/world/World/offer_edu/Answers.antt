use Rattle.std.proofs.lemmas.Result.{IfOk-weaker, on_err_weaker}
use Rattle.fed_sim.specs.declared.step.Step.TheVariants.{OfferEdu}
use Rattle.fed_sim.specs.Offering.{IsEduOffered}
use Rattle.fed_sim.specs.WorldParts.{world_of}
use Rattle.fed_sim.proofs.OfRuns.{comes_by}
use Rattle.fed_sim.proofs.Worlds.{at_none, at_place, comes_at, same_servers}
use Rattle.fed_sim.proofs.world.World.offer_edu.Goals as goal

pub returns-in_default-clause-offered : goal.returns-in_default-clause-offered
returns-in_default-clause-offered c = at_none (world_of c.args.self.now) c.args.self.now.servers c.args.server c.place.result c.place.ensures.place c.get_mut.result c.get_mut.ensures.variant c.in_default.is

pub invariant_of-self-2-clause-comes : goal.invariant_of-self-2-clause-comes
invariant_of-self-2-clause-comes c =
    comes_at (world_of c.args.self.now) c.args.self.now.servers c.args.server c.place.result c.place.ensures.place c.get_mut.result c.get_mut.ensures.variant c.in-Some.sender.now c.offer_edu.new.self c.in-Some.sender c.in-Some.is c.in-Some.ensures.value (IsEduOffered c.args.edu.now c.args.dests.now) c.offer_edu.result
    (λ told new does. comes_by (OfferEdu c.args.server c.args.edu.now c.args.dests.now) (world_of c.args.self.now) told new does) c.offer_edu.ensures.offered c.offer_edu.ensures.err c.args.self.now.comes

pub returns-clause-offered : goal.returns-clause-offered
returns-clause-offered c = IfOk-weaker c.offer_edu.result _ _ (λ told does. at_place (world_of c.args.self.now) c.args.self.now.servers c.args.server c.place.result c.place.ensures.place c.get_mut.result c.get_mut.ensures.variant c.in-Some.sender.now c.offer_edu.new.self c.in-Some.sender c.in-Some.is c.in-Some.ensures.value told does) c.offer_edu.ensures.offered

pub returns-clause-err : goal.returns-clause-err
returns-clause-err c = on_err_weaker c.offer_edu.result (same_servers (world_of c.args.self.now) c.args.self.now.servers c.args.server c.place.result c.place.ensures.place c.get_mut.result c.get_mut.ensures.variant c.in-Some.sender.now c.offer_edu.new.self c.in-Some.sender c.in-Some.is c.in-Some.ensures.value) c.offer_edu.ensures.err
