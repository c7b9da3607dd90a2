use Rattle.std.proofs.Common.{arith, ◌≡◌, ◌∙◌, ap, sym, subst, length}
use Rattle.std.specs.List.{slice_get}
use Rattle.std.specs.Option.{option_map}
use Rattle.fed_outbox.specs.Collecting.{Way}
use Rattle.fed_outbox.specs.Outbox.{OutboxState}
use Rattle.fed_inbox.specs.Inbox.{InboxState, taken_of, taken_edus_of}
use Rattle.fed_sim.specs.declared.outcome.Outcome.TheVariants.{Shown}
use Rattle.fed_sim.specs.Packets.{way_from}
use Rattle.fed_sim.specs.Server.{ServerState}
use Rattle.fed_sim.specs.Showing.{IsShown, no_server, no_way, shown, count_of}
use Rattle.fed_sim.specs.WorldParts.{world_of}
use Rattle.fed_sim.proofs.Options.{mapped_none, mapped_some}
use Rattle.fed_sim.proofs.Packets.{sender_listed}
use Rattle.fed_sim.proofs.Shapes.{servers_count}
use Rattle.fed_sim.proofs.world.World.shown.Goals as goal

abbrev inbox_of : ServerState → InboxState
inbox_of s = s.inbox

abbrev outbox_of : Way → OutboxState
outbox_of way = way.outbox

pub returns-in_default : goal.returns-in_default
returns-in_default c = no_server (mapped_none inbox_of _ (ap (option_map (λ inbox. inbox.now.state)) (sym c.in_default.is) ∙ c.inbox.ensures))

pub returns-in_default-outbox : goal.returns-in_default-outbox
returns-in_default-outbox c = no_way (mapped_none outbox_of _ (ap (option_map (λ outbox. outbox.now)) (sym c.in_default-outbox.is) ∙ c.outbox.ensures))

pub name-name-requires : goal.name-name-requires
name-name-requires c =
    let w = world_of c.args.self.now in
    let way = mapped_some outbox_of (way_from w c.args.origin c.args.server) c.in-Some-outbox.outbox.now (ap (option_map (λ outbox. outbox.now)) (sym c.in-Some-outbox.is) ∙ c.outbox.ensures) in
    let listed = sender_listed w c.args.origin c.args.server way.0 way.1 in
    let count = servers_count w c.args.self.now.comes in
    omega (arith, listed, count)

pub returns : goal.returns
returns c =
    let w = world_of c.args.self.now in
    let inbox = mapped_some inbox_of (slice_get w.servers c.args.server) c.in-Some.inbox.now.state (ap (option_map (λ inbox. inbox.now.state)) (sym c.in-Some.is) ∙ c.inbox.ensures) in
    let way = mapped_some outbox_of (way_from w c.args.origin c.args.server) c.in-Some-outbox.outbox.now (ap (option_map (λ outbox. outbox.now)) (sym c.in-Some-outbox.is) ∙ c.outbox.ensures) in
    let name = c.name-name.result.now in
    let taken : c.count_of.result ≡ count_of (taken_of inbox.0.inbox name) =
    c.count_of.ensures ∙ ap (λ texts. count_of texts) (c.taken.ensures ∙ ap (λ (i : InboxState). taken_of i name) inbox.2) in
    let taken_edus : c.count_of-2.result ≡ count_of (taken_edus_of inbox.0.inbox name) =
    c.count_of-2.ensures ∙ ap (λ texts. count_of texts) (c.taken_edus.ensures ∙ ap (λ (i : InboxState). taken_edus_of i name) inbox.2) in
    let acked : c.acked.result ≡ length way.0.outbox.settled = c.acked.ensures ∙ ap (λ (o : OutboxState). length o.settled) way.2 in
    let acked_edus : c.acked_edus.result ≡ length way.0.outbox.settled_edus = c.acked_edus.ensures ∙ ap (λ (o : OutboxState). length o.settled_edus) way.2 in
    subst (IsShown c.args.server c.args.origin w) (λ i. Shown (sym taken i) (sym taken_edus i) (sym acked i) (sym acked_edus i))
    (shown inbox.0 way.0 name inbox.1 way.1 c.name-name.ensures.text)
