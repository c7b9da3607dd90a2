use Rattle.std.proofs.Common.{map, string_bytes, subst}
use Rattle.std.proofs.lemmas.Result.{IfOk-weaker, on_err_weaker}
use Rattle.fed_sim.specs.Applying.{IsGivenTo, IsGivenInPart}
use Rattle.fed_sim.specs.ServerParts.{server_of}
use Rattle.fed_sim.specs.WorldParts.{world_of}
use Rattle.fed_sim.proofs.OfRuns.{comes_given, comes_given_in_part}
use Rattle.fed_sim.proofs.Worlds.{at_none, at_place, in_part, comes_in_part_at}
use Rattle.fed_sim.proofs.world.World.apply.Goals as goal

pub returns-in_default-clause-applied : goal.returns-in_default-clause-applied
returns-in_default-clause-applied c = at_none (world_of c.args.self.now) c.args.self.now.servers c.args.server c.place.result c.place.ensures.place c.get_mut.result c.get_mut.ensures.variant c.in_default.is

pub invariant_of-self-2-clause-comes : goal.invariant_of-self-2-clause-comes
invariant_of-self-2-clause-comes c =
    let ids = map string_bytes c.deref.result.now in
    comes_in_part_at (world_of c.args.self.now) c.args.self.now.servers c.args.server c.place.result c.place.ensures.place c.get_mut.result c.get_mut.ensures.variant c.in-Some.receiver.now c.apply.new.self c.in-Some.receiver c.in-Some.is c.in-Some.ensures.value (IsGivenTo ids c.args.room.now) (IsGivenInPart ids c.args.room.now) c.apply.result
    (λ told new does. comes_given c.args.server ids c.args.room.now (world_of c.args.self.now) told new does)
    (λ new part. comes_given_in_part c.args.server ids c.args.room.now (world_of c.args.self.now) new part) c.apply.ensures.given c.apply.ensures.err c.args.self.now.comes

pub returns-clause-applied : goal.returns-clause-applied
returns-clause-applied c =
    IfOk-weaker c.apply.result _ _ (λ told does. at_place (world_of c.args.self.now) c.args.self.now.servers c.args.server c.place.result c.place.ensures.place c.get_mut.result c.get_mut.ensures.variant c.in-Some.receiver.now c.apply.new.self c.in-Some.receiver c.in-Some.is c.in-Some.ensures.value told
    (subst (λ ids. IsGivenTo (map string_bytes ids) c.args.room.now (server_of c.in-Some.receiver.now) told (server_of c.apply.new.self)) c.deref.ensures.value does)) c.apply.ensures.given

pub returns-clause-err : goal.returns-clause-err
returns-clause-err c =
    on_err_weaker c.apply.result (λ does. in_part (world_of c.args.self.now) c.args.self.now.servers c.args.server c.place.result c.place.ensures.place c.get_mut.result c.get_mut.ensures.variant c.in-Some.receiver.now c.apply.new.self c.in-Some.receiver c.in-Some.is c.in-Some.ensures.value
    (subst (λ ids. IsGivenInPart (map string_bytes ids) c.args.room.now (server_of c.in-Some.receiver.now) (server_of c.apply.new.self)) c.deref.ensures.value does)) c.apply.ensures.err
