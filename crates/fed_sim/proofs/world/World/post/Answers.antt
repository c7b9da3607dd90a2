use Rattle.std.proofs.Common.{arith, ◌≡◌, ◌+◌, ◌++◌, ◌∷◌, [], length, Some, Bor, refl, sym, ap, ◌∙◌}
use Rattle.std.specs.List.{slice_get}
use Rattle.std.specs.Option.{option_map}
use Rattle.std.specs.Result.{is_ok}
use Rattle.std.proofs.lemmas.Bool.{ltb-true}
use Rattle.std.proofs.lemmas.List.{length-map}
use Rattle.fed_outbox.specs.Outbox.{OutboxState, is_due}
use Rattle.fed_outbox.specs.Seen.{seen}
use Rattle.fed_sim.specs.declared.outcome.Outcome.TheVariants.{NotDue, Posted}
use Rattle.fed_sim.specs.declared.packet.Packet.TheVariants as packet
use Rattle.fed_sim.specs.declared.server.Server.{Server}
use Rattle.fed_sim.specs.Packets.{IsPosted, IsOn, no_sender, no_way, nothing, not_due, posted, request_for}
use Rattle.fed_sim.specs.ServerParts.{server_of}
use Rattle.fed_sim.specs.Steps as steps
use Rattle.fed_sim.specs.Way.{WayState}
use Rattle.fed_sim.specs.WorldParts.{world_of}
use Rattle.fed_sim.specs.World.{request}
use Rattle.fed_sim.proofs.Between.{way_there}
use Rattle.fed_sim.proofs.OfRuns.{Comes, comes_moved}
use Rattle.fed_sim.proofs.Packets.{sent_of, packets_at, one_more, pushed, same_told}
use Rattle.fed_sim.proofs.Shapes.{ways_count}
use Rattle.fed_sim.proofs.world.World.post.Goals as goal

pub returns-in_default-clause-posted : goal.returns-in_default-clause-posted
returns-in_default-clause-posted c = no_sender (sym c.server.ensures ∙ ap (option_map (λ (s : Bor Server). server_of s.now)) c.in_default.is)

pub returns-in_default-way-clause-posted : goal.returns-in_default-way-clause-posted
returns-in_default-way-clause-posted c =
    no_way (server_of c.in-Some.sender.now) (sym c.server.ensures ∙ ap (option_map (λ (s : Bor Server). server_of s.now)) c.in-Some.is)
    (sym c.way.ensures ∙ ap (option_map (λ (way : Bor WayState). way.now.way)) c.in_default-way.is)

pub returns-in_default-unanswered-clause-posted : goal.returns-in_default-unanswered-clause-posted
returns-in_default-unanswered-clause-posted c =
    let w = world_of c.args.self.now in
    let s = server_of c.in-Some.sender.now in
    let of : slice_get w.servers c.args.server ≡ Some s = sym c.server.ensures ∙ ap (option_map (λ (s : Bor Server). server_of s.now)) c.in-Some.is in
    let on : IsOn w c.args.server c.args.dest s c.in-Some-way.way.now.way = record { server_is = of; way_is = sym c.way.ensures ∙ ap (option_map (λ (way : Bor WayState). way.now.way)) c.in-Some-way.is } in
    nothing s c.in-Some-way.way.now.way on (ap (λ (o : OutboxState). o.unanswered) (sym c.outbox-outbox.ensures) ∙ sym c.unanswered.ensures.value ∙ ap (option_map seen) c.in_default-unanswered.is)

pub returns-then-not-due-clause-posted : goal.returns-then-not-due-clause-posted
returns-then-not-due-clause-posted c =
    let w = world_of c.args.self.now in
    let s = server_of c.in-Some.sender.now in
    let of : slice_get w.servers c.args.server ≡ Some s = sym c.server.ensures ∙ ap (option_map (λ (s : Bor Server). server_of s.now)) c.in-Some.is in
    let on : IsOn w c.args.server c.args.dest s c.in-Some-way.way.now.way = record { server_is = of; way_is = sym c.way.ensures ∙ ap (option_map (λ (way : Bor WayState). way.now.way)) c.in-Some-way.is } in
    same_told (IsPosted c.args.server c.args.dest w) _ _ _ _ (ap NotDue (ap (λ (o : OutboxState). o.due_at) (sym c.outbox-outbox.ensures) ∙ sym c.due_at-at_ms.ensures.due_at)) refl
    (not_due s c.in-Some-way.way.now.way (seen c.in-Some-unanswered.transaction) on
    (ap (λ (o : OutboxState). o.unanswered) (sym c.outbox-outbox.ensures) ∙ sym c.unanswered.ensures.value ∙ ap (option_map seen) c.in-Some-unanswered.is)
    (ap (λ (o : OutboxState). is_due o c.args.self.now.now) (sym c.outbox-outbox.ensures) ∙ sym c.if-not-due.ensures))

pub name-name-requires : goal.name-name-requires
name-name-requires c =
    let w = world_of c.args.self.now in
    let s = server_of c.in-Some.sender.now in
    let of : slice_get w.servers c.args.server ≡ Some s = sym c.server.ensures ∙ ap (option_map (λ (s : Bor Server). server_of s.now)) c.in-Some.is in
    let on : IsOn w c.args.server c.args.dest s c.in-Some-way.way.now.way = record { server_is = of; way_is = sym c.way.ensures ∙ ap (option_map (λ (way : Bor WayState). way.now.way)) c.in-Some-way.is } in
    let below = ltb-true c.args.dest (length s.ways) ((way_there s c.args.dest c.in-Some-way.way.now.way on.way_is).within) in
    let count = ways_count w c.args.self.now.comes c.args.server s of in
    omega (arith, below, count)

pub invariant_of-self-clause-comes : goal.invariant_of-self-clause-comes
invariant_of-self-clause-comes c =
    let w = world_of c.args.self.now in
    let s = server_of c.in-Some.sender.now in
    let of : slice_get w.servers c.args.server ≡ Some s = sym c.server.ensures ∙ ap (option_map (λ (s : Bor Server). server_of s.now)) c.in-Some.is in
    let on : IsOn w c.args.server c.args.dest s c.in-Some-way.way.now.way = record { server_is = of; way_is = sym c.way.ensures ∙ ap (option_map (λ (way : Bor WayState). way.now.way)) c.in-Some-way.is } in
    let t = seen c.in-Some-unanswered.transaction in
    let sent = packet.Request c.args.server c.args.dest c.in-Some-unanswered.transaction.number c.in_ok-bytes.bytes in
    let items = c.args.self.now.packets.items in
    pushed (λ ps. Comes (packets_at w ps)) (is_ok c.push.result) items (items ++ sent ∷ []) c.push.new.self.items c.push.ensures.items
    (λ more. comes_moved w (Posted (length w.packets + 1)) (packets_at w c.push.new.self.items)
    (steps.posted c.args.server c.args.dest (same_told (IsPosted c.args.server c.args.dest w) _ _ _ _ refl
    (one_more w c.args.self.now.packets.items c.push.new.self.items (packet.Request c.args.server c.args.dest c.in-Some-unanswered.transaction.number c.in_ok-bytes.bytes)
    (request_for w c.args.server s c.args.dest c.name-name.result.now t) more
    (ap (request c.args.server c.args.dest c.in-Some-unanswered.transaction.number) c.in_ok-bytes.ensures.exact))
    (posted s c.in-Some-way.way.now.way t c.name-name.result.now on
    (ap (λ (o : OutboxState). o.unanswered) (sym c.outbox-outbox.ensures) ∙ sym c.unanswered.ensures.value ∙ ap (option_map seen) c.in-Some-unanswered.is)
    (ap (λ (o : OutboxState). is_due o c.args.self.now.now) (sym c.outbox-outbox.ensures) ∙ sym c.if-not-due.ensures)
    c.name-name.ensures.text c.in_ok-bytes.ensures.read_back))) c.args.self.now.comes) c.args.self.now.comes

pub returns-clause-posted : goal.returns-clause-posted
returns-clause-posted c =
    let w = world_of c.args.self.now in
    let s = server_of c.in-Some.sender.now in
    let of : slice_get w.servers c.args.server ≡ Some s = sym c.server.ensures ∙ ap (option_map (λ (s : Bor Server). server_of s.now)) c.in-Some.is in
    let on : IsOn w c.args.server c.args.dest s c.in-Some-way.way.now.way = record { server_is = of; way_is = sym c.way.ensures ∙ ap (option_map (λ (way : Bor WayState). way.now.way)) c.in-Some-way.is } in
    let t = seen c.in-Some-unanswered.transaction in
    let all = length-map c.args.self.now.packets.items sent_of in
    let size = c.args.self.now.packets.ok.0 in
    let number : length w.packets + 1 ≡ c.len-packet.result = omega (arith, all, size, c.len-packet.ensures, c.in_ok-push.ensures.len) in
    same_told (IsPosted c.args.server c.args.dest w) _ _ _ _ (ap Posted number)
    (one_more w c.args.self.now.packets.items c.push.new.self.items (packet.Request c.args.server c.args.dest c.in-Some-unanswered.transaction.number c.in_ok-bytes.bytes)
    (request_for w c.args.server s c.args.dest c.name-name.result.now t) c.in_ok-push.ensures.items
    (ap (request c.args.server c.args.dest c.in-Some-unanswered.transaction.number) c.in_ok-bytes.ensures.exact))
    (posted s c.in-Some-way.way.now.way t c.name-name.result.now on
    (ap (λ (o : OutboxState). o.unanswered) (sym c.outbox-outbox.ensures) ∙ sym c.unanswered.ensures.value ∙ ap (option_map seen) c.in-Some-unanswered.is)
    (ap (λ (o : OutboxState). is_due o c.args.self.now.now) (sym c.outbox-outbox.ensures) ∙ sym c.if-not-due.ensures)
    c.name-name.ensures.text c.in_ok-bytes.ensures.read_back)
