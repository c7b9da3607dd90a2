use Rattle.std.proofs.Common.{arith, ◌≡◌, ◌+◌, ◌++◌, ◌∷◌, [], Bool, true, if◌then◌else◌, length, map, set, string_bytes, Some, refl, sym, ap, ◌∙◌, subst}
use Rattle.std.specs.Result.{is_ok}
use Rattle.std.proofs.lemmas.List.{length-map, length-append}
use Rattle.fed_room.specs.Room.{room_of}
use Rattle.fed_sim.specs.declared.outcome.Outcome.TheVariants.{Answered}
use Rattle.fed_sim.specs.declared.packet.Packet.{Packet}
use Rattle.fed_sim.specs.declared.packet.Packet.TheVariants as packet
use Rattle.fed_exchange.specs.Messages.{IsRequestIn, HasNoRequest}
use Rattle.fed_sim.specs.Hosted.{HostedState}
use Rattle.fed_sim.specs.Packets.{IsTaken, with_packet, no_request, no_text, no_receiver, taken}
use Rattle.fed_sim.specs.ServerParts.{server_of}
use Rattle.fed_sim.specs.Steps as steps
use Rattle.fed_sim.specs.Taking.{IsTakeAt}
use Rattle.fed_sim.specs.WorldParts.{world_of, packet_of}
use Rattle.fed_sim.specs.World.{answer, with_server}
use Rattle.fed_sim.proofs.OfRuns.{comes_moved, comes_same}
use Rattle.fed_sim.proofs.Packets.{sent_of, packets_at, packet_is, no_packet, no_request_in, answer_no_request, answered_then, none_read, one_read, if_ok, same_told}
use Rattle.fed_sim.proofs.Servers.{on_error}
use Rattle.fed_inbox.specs.Rooms.{room_set}
use Rattle.fed_sim.proofs.Shapes.{rooms_count, inbox_rooms}
use Rattle.fed_sim.proofs.Worlds.{world_at, not_there, server_is, afterwards, same_servers}
use Rattle.fed_sim.proofs.world.World.take.Goals as goal

pub returns-then-not-has_packet-clause-taken : goal.returns-then-not-has_packet-clause-taken
returns-then-not-has_packet-clause-taken c =
    no_request (no_request_in _ c.args.packet (no_packet c.args.self.now.packets.items c.args.packet (sym c.if-not-has_packet.ensures)))

pub returns-in_default-clause-taken : goal.returns-in_default-clause-taken
returns-in_default-clause-taken c =
    let here = packet_is c.args.self.now.packets.items c.args.packet c.index.result.now (sym c.if-not-has_packet.ensures) c.index.ensures ∙ ap (λ (p : Packet). Some (packet_of p)) c.in_default.is in
    no_request (answer_no_request _ c.args.packet c.in_default.field-0 c.in_default.field-1 c.in_default.field-2 c.in_default.field-3 here)

pub returns-in_default-2-clause-taken : goal.returns-in_default-2-clause-taken
returns-in_default-2-clause-taken c =
    let here = packet_is c.args.self.now.packets.items c.args.packet c.index.result.now (sym c.if-not-has_packet.ensures) c.index.ensures ∙ ap (λ (p : Packet). Some (packet_of p)) c.in-Request.is in
    no_text c.in-Request.server c.in-Request.dest c.in-Request.number c.in-Request.bytes.items here
    (subst HasNoRequest c.deref.ensures.value (none_read _ c.in_ok-request.field-0 c.in_default-2.is c.in_ok-request.ensures.none))

pub returns-in_default-get_mut-clause-taken : goal.returns-in_default-get_mut-clause-taken
returns-in_default-get_mut-clause-taken c =
    let w = world_of c.args.self.now in
    let kept = c.in_ok-reserve.ensures.items in
    let here = packet_is c.args.self.now.packets.items c.args.packet c.index.result.now (sym c.if-not-has_packet.ensures) c.index.ensures ∙ ap (λ (p : Packet). Some (packet_of p)) c.in-Request.is in
    same_told (IsTaken c.args.packet w) _ _ _ _ refl (ap (packets_at w) (sym kept))
    (no_receiver c.in-Request.server c.in-Request.dest c.in-Request.number c.in-Request.bytes.items here (not_there w c.args.self.now.servers c.in-Request.dest c.place.result c.place.ensures.place c.get_mut.result c.get_mut.ensures.variant c.in_default-get_mut.is))

pub take-requires-clause-known : goal.take-requires-clause-known
take-requires-clause-known c =
    let w = world_of c.args.self.now in
    sym (length-map c.in-Some-get_mut.receiver.now.rooms.items (λ (h : HostedState). room_of h.room))
    ∙ rooms_count w c.args.self.now.comes c.in-Request.dest (server_of c.in-Some-get_mut.receiver.now) (server_is w c.args.self.now.servers c.in-Request.dest c.place.result c.place.ensures.place c.get_mut.result c.get_mut.ensures.variant c.in-Some-get_mut.receiver.now c.in-Some-get_mut.receiver.now c.in-Some-get_mut.receiver c.in-Some-get_mut.is c.in-Some-get_mut.ensures.value)
    ∙ length-map c.args.self.now.known.items string_bytes ∙ ap length (sym c.deref-2.ensures.value)

pub take-requires-clause-inbox : goal.take-requires-clause-inbox
take-requires-clause-inbox c =
    let w = world_of c.args.self.now in
    inbox_rooms w c.args.self.now.comes c.in-Request.dest (server_of c.in-Some-get_mut.receiver.now) (server_is w c.args.self.now.servers c.in-Request.dest c.place.result c.place.ensures.place c.get_mut.result c.get_mut.ensures.variant c.in-Some-get_mut.receiver.now c.in-Some-get_mut.receiver.now c.in-Some-get_mut.receiver c.in-Some-get_mut.is c.in-Some-get_mut.ensures.value)
    ∙ ap (λ ids. room_set (map string_bytes ids)) (sym c.deref-2.ensures.value)

pub returns-in_err-reply-clause-err : goal.returns-in_err-reply-clause-err
returns-in_err-reply-clause-err c =
    let w = world_of c.args.self.now in
    let kept = c.in_ok-reserve.ensures.items in
    on_error c.from_residual-in_err-reply.result
    (same_servers (packets_at w c.reserve.new.self.items) c.args.self.now.servers c.in-Request.dest c.place.result c.place.ensures.place c.get_mut.result c.get_mut.ensures.variant c.in-Some-get_mut.receiver.now c.take.new.self c.in-Some-get_mut.receiver c.in-Some-get_mut.is c.in-Some-get_mut.ensures.value c.in_err-reply.ensures.err ∙ ap (packets_at w) kept)

pub invariant_of-self-in-Break-branch-4 : goal.invariant_of-self-in-Break-branch-4
invariant_of-self-in-Break-branch-4 c =
    let w = world_of c.args.self.now in
    let kept = c.in_ok-reserve.ensures.items in
    record { within = c.args.self.now.within; comes = comes_same w _ (same_servers (packets_at w c.reserve.new.self.items) c.args.self.now.servers c.in-Request.dest c.place.result c.place.ensures.place c.get_mut.result c.get_mut.ensures.variant c.in-Some-get_mut.receiver.now c.take.new.self c.in-Some-get_mut.receiver c.in-Some-get_mut.is c.in-Some-get_mut.ensures.value c.in_err-reply.ensures.err ∙ ap (packets_at w) kept) c.args.self.now.comes }

pub invariant_of-self-2-clause-comes : goal.invariant_of-self-2-clause-comes
invariant_of-self-2-clause-comes c =
    let w = world_of c.args.self.now in
    let kept = c.in_ok-reserve.ensures.items in
    let here = packet_is c.args.self.now.packets.items c.args.packet c.index.result.now (sym c.if-not-has_packet.ensures) c.index.ensures ∙ ap (λ (p : Packet). Some (packet_of p)) c.in-Request.is in
    let sent = packet.Answer c.in-Request.server c.in-Request.dest c.in-Request.number c.in_ok-reply.reply in
    let items = c.reserve.new.self.items in
    let done : is_ok c.push.result ≡ true = c.push.ensures.succeeds (omega (arith, c.in_ok-reserve.ensures.ok)) in
    let more = c.push.ensures.items ∙ ap (λ (b : Bool). if b then items ++ sent ∷ [] else items) done in
    comes_moved w (Answered (length w.packets + 1) c.in_ok-reply.reply.status) (packets_at (world_at w (set c.args.self.now.servers.items c.place.result c.take.new.self)) c.push.new.self.items)
    (steps.taken c.args.packet (same_told (IsTaken c.args.packet w) _ _ _ _ refl
    (ap (λ ps. with_packet (with_server (packets_at w ps) c.in-Request.dest (server_of c.take.new.self)) (answer c.in-Request.server c.in-Request.dest c.in-Request.number c.in_ok-reply.reply)) (sym kept)
    ∙ answered_then w c.args.self.now.servers.items (set c.args.self.now.servers.items c.place.result c.take.new.self) c.in-Request.dest c.take.new.self
    (afterwards w c.args.self.now.servers c.in-Request.dest c.place.result c.place.ensures.place c.get_mut.result c.get_mut.ensures.variant c.in-Some-get_mut.receiver.now c.take.new.self c.in-Some-get_mut.receiver c.in-Some-get_mut.is c.in-Some-get_mut.ensures.value)
    c.reserve.new.self.items c.push.new.self.items (packet.Answer c.in-Request.server c.in-Request.dest c.in-Request.number c.in_ok-reply.reply)
    (answer c.in-Request.server c.in-Request.dest c.in-Request.number c.in_ok-reply.reply) more refl)
    (taken c.in-Request.server c.in-Request.dest c.in-Request.number c.in-Request.bytes.items c.in-Some.request (server_of c.in-Some-get_mut.receiver.now) (server_of c.take.new.self) c.in_ok-reply.reply here
    (subst (λ bytes. IsRequestIn bytes c.in-Some.request) c.deref.ensures.value (one_read _ c.in_ok-request.field-0 c.in-Some.request c.in-Some.is c.in_ok-request.ensures.found))
    (server_is w c.args.self.now.servers c.in-Request.dest c.place.result c.place.ensures.place c.get_mut.result c.get_mut.ensures.variant c.in-Some-get_mut.receiver.now c.take.new.self c.in-Some-get_mut.receiver c.in-Some-get_mut.is c.in-Some-get_mut.ensures.value)
    (subst (λ ids. IsTakeAt (map string_bytes ids) c.in-Some.request (server_of c.in-Some-get_mut.receiver.now) c.in_ok-reply.reply (server_of c.take.new.self)) c.deref-2.ensures.value c.in_ok-reply.ensures.taken)))) c.args.self.now.comes

pub returns-clause-taken : goal.returns-clause-taken
returns-clause-taken c =
    let w = world_of c.args.self.now in
    let kept = c.in_ok-reserve.ensures.items in
    let here = packet_is c.args.self.now.packets.items c.args.packet c.index.result.now (sym c.if-not-has_packet.ensures) c.index.ensures ∙ ap (λ (p : Packet). Some (packet_of p)) c.in-Request.is in
    let more = if_ok c.push.result _ _ _ _ c.unwrap.ensures c.push.ensures.items in
    let longer = ap length more ∙ length-append c.reserve.new.self.items _ in
    let held = ap length kept in
    let room = c.push.new.self.ok.0 in
    let all = length-map c.args.self.now.packets.items sent_of in
    let size = c.args.self.now.packets.ok.0 in
    let number : length w.packets + 1 ≡ c.len-packet.result = omega (arith, all, size, c.len-packet.ensures, longer, held, room) in
    same_told (IsTaken c.args.packet w) _ _ _ _ (λ i. Answered (number i) (sym c.status-status.ensures i))
    (ap (λ ps. with_packet (with_server (packets_at w ps) c.in-Request.dest (server_of c.take.new.self)) (answer c.in-Request.server c.in-Request.dest c.in-Request.number c.in_ok-reply.reply)) (sym kept)
    ∙ answered_then w c.args.self.now.servers.items (set c.args.self.now.servers.items c.place.result c.take.new.self) c.in-Request.dest c.take.new.self
    (afterwards w c.args.self.now.servers c.in-Request.dest c.place.result c.place.ensures.place c.get_mut.result c.get_mut.ensures.variant c.in-Some-get_mut.receiver.now c.take.new.self c.in-Some-get_mut.receiver c.in-Some-get_mut.is c.in-Some-get_mut.ensures.value)
    c.reserve.new.self.items c.push.new.self.items (packet.Answer c.in-Request.server c.in-Request.dest c.in-Request.number c.in_ok-reply.reply)
    (answer c.in-Request.server c.in-Request.dest c.in-Request.number c.in_ok-reply.reply) more refl)
    (taken c.in-Request.server c.in-Request.dest c.in-Request.number c.in-Request.bytes.items c.in-Some.request (server_of c.in-Some-get_mut.receiver.now) (server_of c.take.new.self) c.in_ok-reply.reply here
    (subst (λ bytes. IsRequestIn bytes c.in-Some.request) c.deref.ensures.value (one_read _ c.in_ok-request.field-0 c.in-Some.request c.in-Some.is c.in_ok-request.ensures.found))
    (server_is w c.args.self.now.servers c.in-Request.dest c.place.result c.place.ensures.place c.get_mut.result c.get_mut.ensures.variant c.in-Some-get_mut.receiver.now c.take.new.self c.in-Some-get_mut.receiver c.in-Some-get_mut.is c.in-Some-get_mut.ensures.value)
    (subst (λ ids. IsTakeAt (map string_bytes ids) c.in-Some.request (server_of c.in-Some-get_mut.receiver.now) c.in_ok-reply.reply (server_of c.take.new.self)) c.deref-2.ensures.value c.in_ok-reply.ensures.taken))
