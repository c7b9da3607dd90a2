use Rattle.std.proofs.lemmas.Result.{IfOk-weaker, on_err_weaker}
use Rattle.fed_sim.specs.Applying.{IsAppliedAt, IsAppliedInPart}
use Rattle.fed_sim.specs.Steps.{given}
use Rattle.fed_sim.specs.WorldParts.{world_of}
use Rattle.fed_sim.proofs.OfRuns.{comes_moved, comes_in_part}
use Rattle.fed_sim.proofs.Worlds.{at_none, at_place, in_part, comes_in_part_at}
use Rattle.fed_sim.proofs.world.World.apply_at.Goals as goal

pub returns-in_default-clause-applied : goal.returns-in_default-clause-applied
returns-in_default-clause-applied c = at_none (world_of c.args.self.now) c.args.self.now.servers c.args.server c.place.result c.place.ensures.place c.get_mut.result c.get_mut.ensures.variant c.in_default.is

pub invariant_of-self-2-clause-comes : goal.invariant_of-self-2-clause-comes
invariant_of-self-2-clause-comes c =
    comes_in_part_at (world_of c.args.self.now) c.args.self.now.servers c.args.server c.place.result c.place.ensures.place c.get_mut.result c.get_mut.ensures.variant c.in-Some.receiver.now c.apply_at.new.self c.in-Some.receiver c.in-Some.is c.in-Some.ensures.value (IsAppliedAt c.args.place) (IsAppliedInPart c.args.place) c.apply_at.result
    (λ told new does. comes_moved (world_of c.args.self.now) told new (given c.args.server c.args.place does)) (λ new part. comes_in_part (world_of c.args.self.now) new c.args.server c.args.place part)
    c.apply_at.ensures.applied c.apply_at.ensures.err c.args.self.now.comes

pub returns-clause-applied : goal.returns-clause-applied
returns-clause-applied c = IfOk-weaker c.apply_at.result _ _ (λ told does. at_place (world_of c.args.self.now) c.args.self.now.servers c.args.server c.place.result c.place.ensures.place c.get_mut.result c.get_mut.ensures.variant c.in-Some.receiver.now c.apply_at.new.self c.in-Some.receiver c.in-Some.is c.in-Some.ensures.value told does) c.apply_at.ensures.applied

pub returns-clause-err : goal.returns-clause-err
returns-clause-err c = on_err_weaker c.apply_at.result (in_part (world_of c.args.self.now) c.args.self.now.servers c.args.server c.place.result c.place.ensures.place c.get_mut.result c.get_mut.ensures.variant c.in-Some.receiver.now c.apply_at.new.self c.in-Some.receiver c.in-Some.is c.in-Some.ensures.value) c.apply_at.ensures.err
