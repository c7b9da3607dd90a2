use Rattle.std.proofs.Common.{length, map, string_bytes, sym, ap, ◌∙◌, subst}
use Rattle.std.proofs.lemmas.List.{length-map}
use Rattle.std.proofs.lemmas.Result.{IfOk-weaker, on_err_weaker}
use Rattle.fed_room_contract.specs.Draft.{DraftFields}
use Rattle.fed_sim.specs.declared.step.Step.TheVariants.{Offer}
use Rattle.fed_room.specs.Room.{room_of}
use Rattle.fed_sim.specs.Hosted.{HostedState}
use Rattle.fed_sim.specs.Way.{WayState}
use Rattle.fed_sim.specs.Offering.{IsOffered}
use Rattle.fed_sim.specs.ServerParts.{server_of}
use Rattle.fed_sim.specs.World.{dated}
use Rattle.fed_sim.specs.WorldParts.{world_of}
use Rattle.fed_sim.proofs.OfRuns.{comes_by}
use Rattle.fed_sim.proofs.Shapes.{ways_count, rooms_count}
use Rattle.fed_sim.proofs.Worlds.{at_none, at_place, comes_at, same_servers, server_is}
use Rattle.fed_sim.proofs.world.World.offer.Goals as goal

pub returns-in_default-clause-offered : goal.returns-in_default-clause-offered
returns-in_default-clause-offered c = at_none (world_of c.args.self.now) c.args.self.now.servers c.args.server c.place.result c.place.ensures.place c.get_mut.result c.get_mut.ensures.variant c.in_default.is

pub offer-requires-clause-ways : goal.offer-requires-clause-ways
offer-requires-clause-ways c =
    sym (length-map c.in-Some.sender.now.ways.items (λ (l : WayState). l.way))
    ∙ ways_count (world_of c.args.self.now) c.args.self.now.comes c.args.server (server_of c.in-Some.sender.now) (server_is (world_of c.args.self.now) c.args.self.now.servers c.args.server c.place.result c.place.ensures.place c.get_mut.result c.get_mut.ensures.variant c.in-Some.sender.now c.in-Some.sender.now c.in-Some.sender c.in-Some.is c.in-Some.ensures.value)

pub offer-requires-clause-rooms : goal.offer-requires-clause-rooms
offer-requires-clause-rooms c =
    sym (length-map c.in-Some.sender.now.rooms.items (λ (h : HostedState). room_of h.room))
    ∙ rooms_count (world_of c.args.self.now) c.args.self.now.comes c.args.server (server_of c.in-Some.sender.now) (server_is (world_of c.args.self.now) c.args.self.now.servers c.args.server c.place.result c.place.ensures.place c.get_mut.result c.get_mut.ensures.variant c.in-Some.sender.now c.in-Some.sender.now c.in-Some.sender c.in-Some.is c.in-Some.ensures.value)
    ∙ length-map c.args.self.now.known.items string_bytes ∙ ap length (sym c.deref.ensures.value)

pub invariant_of-self-2-clause-comes : goal.invariant_of-self-2-clause-comes
invariant_of-self-2-clause-comes c =
    comes_at (world_of c.args.self.now) c.args.self.now.servers c.args.server c.place.result c.place.ensures.place c.get_mut.result c.get_mut.ensures.variant c.in-Some.sender.now c.offer.new.self c.in-Some.sender c.in-Some.is c.in-Some.ensures.value (IsOffered c.args.self.now.list (map string_bytes c.args.self.now.known.items) (dated c.args.draft.now c.args.self.now.now)) c.offer.result
    (λ told new does. comes_by (Offer c.args.server c.args.draft.now) (world_of c.args.self.now) told new does)
    (IfOk-weaker c.offer.result _ _ (λ told does. subst (λ (d : DraftFields). IsOffered c.args.self.now.list (map string_bytes c.args.self.now.known.items) d (server_of c.in-Some.sender.now) told (server_of c.offer.new.self)) c.in_ok-draft.ensures
    (subst (λ ids. IsOffered c.args.self.now.list (map string_bytes ids) c.in_ok-draft.draft (server_of c.in-Some.sender.now) told (server_of c.offer.new.self)) c.deref.ensures.value does)) c.offer.ensures.offered)
    c.offer.ensures.err c.args.self.now.comes

pub returns-clause-offered : goal.returns-clause-offered
returns-clause-offered c =
    IfOk-weaker c.offer.result _ _ (λ told does. at_place (world_of c.args.self.now) c.args.self.now.servers c.args.server c.place.result c.place.ensures.place c.get_mut.result c.get_mut.ensures.variant c.in-Some.sender.now c.offer.new.self c.in-Some.sender c.in-Some.is c.in-Some.ensures.value told
    (subst (λ (d : DraftFields). IsOffered c.args.self.now.list (map string_bytes c.args.self.now.known.items) d (server_of c.in-Some.sender.now) told (server_of c.offer.new.self)) c.in_ok-draft.ensures
    (subst (λ ids. IsOffered c.args.self.now.list (map string_bytes ids) c.in_ok-draft.draft (server_of c.in-Some.sender.now) told (server_of c.offer.new.self)) c.deref.ensures.value does))) c.offer.ensures.offered

pub returns-clause-err : goal.returns-clause-err
returns-clause-err c = on_err_weaker c.offer.result (same_servers (world_of c.args.self.now) c.args.self.now.servers c.args.server c.place.result c.place.ensures.place c.get_mut.result c.get_mut.ensures.variant c.in-Some.sender.now c.offer.new.self c.in-Some.sender c.in-Some.is c.in-Some.ensures.value) c.offer.ensures.err
