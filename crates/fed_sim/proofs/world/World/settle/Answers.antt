use Rattle.std.proofs.Common.{Some, refl, sym, ap, ◌∙◌}
use Rattle.fed_sim.specs.declared.packet.Packet.{Packet}
use Rattle.fed_sim.specs.Packets.{no_answer, settled}
use Rattle.fed_sim.specs.Steps as steps
use Rattle.fed_sim.specs.WorldParts.{world_of, packet_of}
use Rattle.fed_sim.proofs.OfRuns.{comes_moved}
use Rattle.fed_sim.proofs.Packets.{packet_is, request_no_answer}
use Rattle.fed_sim.proofs.Worlds.{at_none, at_place}
use Rattle.fed_sim.proofs.world.World.settle.Goals as goal

pub returns-in_default-clause-settled : goal.returns-in_default-clause-settled
returns-in_default-clause-settled c =
    let here = packet_is c.args.self.now.packets.items c.args.packet c.index.result.now (sym c.if-not-has_packet.ensures) c.index.ensures ∙ ap (λ (p : Packet). Some (packet_of p)) c.in_default.is in
    no_answer (request_no_answer _ c.args.packet c.in_default.field-0 c.in_default.field-1 c.in_default.field-2 c.in_default.field-3.items here) refl refl

pub returns-in_default-get_mut-clause-settled : goal.returns-in_default-get_mut-clause-settled
returns-in_default-get_mut-clause-settled c =
    let here = packet_is c.args.self.now.packets.items c.args.packet c.index.result.now (sym c.if-not-has_packet.ensures) c.index.ensures ∙ ap (λ (p : Packet). Some (packet_of p)) c.in-Answer.is in
    settled c.in-Answer.server c.in-Answer.dest c.in-Answer.number c.in-Answer.reply c.in_ok-status.status here c.in_ok-status.ensures
    (at_none (world_of c.args.self.now) c.args.self.now.servers c.in-Answer.server c.place.result c.place.ensures.place c.get_mut.result c.get_mut.ensures.variant c.in_default-get_mut.is)

pub invariant_of-self-2-clause-comes : goal.invariant_of-self-2-clause-comes
invariant_of-self-2-clause-comes c =
    let here = packet_is c.args.self.now.packets.items c.args.packet c.index.result.now (sym c.if-not-has_packet.ensures) c.index.ensures ∙ ap (λ (p : Packet). Some (packet_of p)) c.in-Answer.is in
    comes_moved (world_of c.args.self.now) c.settle.result _
    (steps.settled c.args.packet (settled c.in-Answer.server c.in-Answer.dest c.in-Answer.number c.in-Answer.reply c.in_ok-status.status here c.in_ok-status.ensures
    (at_place (world_of c.args.self.now) c.args.self.now.servers c.in-Answer.server c.place.result c.place.ensures.place c.get_mut.result c.get_mut.ensures.variant c.in-Some.sender.now c.settle.new.self c.in-Some.sender c.in-Some.is c.in-Some.ensures.value c.settle.result c.settle.ensures))) c.args.self.now.comes

pub returns-clause-settled : goal.returns-clause-settled
returns-clause-settled c =
    let here = packet_is c.args.self.now.packets.items c.args.packet c.index.result.now (sym c.if-not-has_packet.ensures) c.index.ensures ∙ ap (λ (p : Packet). Some (packet_of p)) c.in-Answer.is in
    settled c.in-Answer.server c.in-Answer.dest c.in-Answer.number c.in-Answer.reply c.in_ok-status.status here c.in_ok-status.ensures
    (at_place (world_of c.args.self.now) c.args.self.now.servers c.in-Answer.server c.place.result c.place.ensures.place c.get_mut.result c.get_mut.ensures.variant c.in-Some.sender.now c.settle.new.self c.in-Some.sender c.in-Some.is c.in-Some.ensures.value c.settle.result c.settle.ensures)
