use Rattle.std.proofs.Common.{arith, ◌≡◌, Bool, [], ◌∷◌, ◌++◌, Some, length, set, true, if◌then◌else◌, refl, sym, ap, subst, ◌∙◌}
use Rattle.std.specs.Option.{option_map}
use Rattle.std.proofs.lemmas.List.{with_items_is, map-set}
use Rattle.std.proofs.lemmas.Option.{slice_get-map, slice_get-get_or}
use Rattle.fed_room_contract.specs.Graph.{is_ready}
use Rattle.fed_room_contract.specs.Room.{RoomState, committed}
use Rattle.fed_room.specs.Room.{room_of}
use Rattle.fed_journal.specs.declared.entry.Entry.TheVariants as entry
use Rattle.fed_journal.specs.Journal.{events_of}
use Rattle.fed_sim.specs.declared.entering.Entered.{Entered}
use Rattle.fed_journal.specs.declared.offered.Offered.TheVariants as offered
use Rattle.fed_sim.specs.declared.outcome.Outcome.TheVariants.{NotSent, Sent}
use Rattle.fed_sim.specs.declared.outcome.SendRefusal.TheVariants.{NotMade, Limit}
use Rattle.fed_sim.specs.Hosted.{HostedState, rooms_of}
use Rattle.fed_journal.specs.Offering.{open_among}
use Rattle.fed_sim.specs.Ways.{ways_beyond}
use Rattle.fed_sim.specs.Sending.{ways_after}
use Rattle.fed_sim.specs.Way.{ways_of}
use Rattle.fed_sim.specs.Offering.{IsOfferedAt, with_journal, with_stored}
use Rattle.fed_sim.specs.ServerParts.{server_of}
use Rattle.fed_sim.proofs.Places.{listed_destination}
use Rattle.fed_sim.proofs.WayQueues.{same_seen}
use Rattle.fed_sim.proofs.Offers.{not_made, event_limit, event_enters}
use Rattle.fed_sim.proofs.Servers.{same_parts, same_step, on_error, both_ok, told_some, told_none}
use Rattle.fed_sim.proofs.server.Server.offer_at.Goals as goal

pub enter-requires : goal.enter-requires
enter-requires c = λ d among.
    let within = listed_destination (room_of c.index_mut-hosted.result.now.room).stored c.in-Ok.outgoing.prepared.before c.args.list.now c.args.self.now.own d (sym (c.in-Ok.ensures.dests d) ∙ among) in
    omega (arith, within, c.requires.ways, ap length c.deref_mut.ensures.value)

pub returns-in-Err-clause-offered : goal.returns-in-Err-clause-offered
returns-in-Err-clause-offered c =
    let hosted = c.args.self.now.rooms.items in
    let item = c.index_mut-hosted.result.now in
    let here = slice_get-map (λ (h : HostedState). room_of h.room) hosted c.args.place
    ∙ ap (option_map (λ (h : HostedState). room_of h.room)) (slice_get-get_or hosted c.args.place item c.requires.room ∙ ap Some (sym c.index_mut-hosted.ensures.value)) in
    let same = same_parts (server_of c.args.self.now) _ _ _ _ _ _ _ _
    (sym (same_seen (λ (h : HostedState). room_of h.room) hosted c.args.place c.outgoing_of.new.hosted item (c.in-Err.ensures.room ∙ ap (λ (h : HostedState). room_of h.room) c.index_mut-hosted.ensures.value)))
    (sym (same_seen (λ (h : HostedState). h.queue) hosted c.args.place c.outgoing_of.new.hosted item (c.in-Err.ensures.queue ∙ ap (λ (h : HostedState). h.queue) c.index_mut-hosted.ensures.value)))
    refl refl in
    both_ok c.not_made.result c.not_made.ensures.told c.not_made.ensures.others (λ told is other. same_step (IsOfferedAt c.args.list.now c.args.place c.args.draft (server_of c.args.self.now))
    (NotSent (NotMade c.in-Err.refusal)) told (server_of c.args.self.now) _ (sym is) same (not_made c.args.list.now c.args.place c.args.draft (server_of c.args.self.now) (room_of item.room) c.in-Err.refusal here (c.in-Err.ensures.refused other)))

pub returns-in-Err-clause-err : goal.returns-in-Err-clause-err
returns-in-Err-clause-err c =
    let hosted = c.args.self.now.rooms.items in
    let item = c.index_mut-hosted.result.now in
    on_error c.not_made.result (same_parts (server_of c.args.self.now) _ _ _ _ _ _ _ _
    (same_seen (λ (h : HostedState). room_of h.room) hosted c.args.place c.outgoing_of.new.hosted item (c.in-Err.ensures.room ∙ ap (λ (h : HostedState). room_of h.room) c.index_mut-hosted.ensures.value))
    (same_seen (λ (h : HostedState). h.queue) hosted c.args.place c.outgoing_of.new.hosted item (c.in-Err.ensures.queue ∙ ap (λ (h : HostedState). h.queue) c.index_mut-hosted.ensures.value))
    refl refl)

pub returns-in_err-number-clause-err : goal.returns-in_err-number-clause-err
returns-in_err-number-clause-err c =
    let hosted = c.args.self.now.rooms.items in
    let item = c.index_mut-hosted.result.now in
    on_error c.from_residual.result (same_parts (server_of c.args.self.now) _ _ _ _ _ _ _ _
    (same_seen (λ (h : HostedState). room_of h.room) hosted c.args.place c.outgoing_of.new.hosted item (c.in-Ok.ensures.room ∙ ap (λ (h : HostedState). room_of h.room) c.index_mut-hosted.ensures.value))
    (same_seen (λ (h : HostedState). h.queue) hosted c.args.place c.outgoing_of.new.hosted item (c.in-Ok.ensures.queue ∙ ap (λ (h : HostedState). h.queue) c.index_mut-hosted.ensures.value))
    c.in_err-number.ensures.err
    (ap ways_of (with_items_is c.args.self.now.ways c.enter.new.ways (omega (arith, c.in_err-number.ensures.count, ap length c.deref_mut.ensures.value, c.args.self.now.ways.ok.0)))
    ∙ c.in_err-number.ensures.err_ways ∙ ap ways_of c.deref_mut.ensures.value))

pub returns-in-None-clause-offered : goal.returns-in-None-clause-offered
returns-in-None-clause-offered c =
    let hosted = c.args.self.now.rooms.items in
    let item = c.index_mut-hosted.result.now in
    let entries = c.args.self.now.journal.entries in
    let ways = ways_of c.args.self.now.ways.items in
    let o = c.in-Ok.outgoing in
    let here = slice_get-map (λ (h : HostedState). room_of h.room) hosted c.args.place
    ∙ ap (option_map (λ (h : HostedState). room_of h.room)) (slice_get-get_or hosted c.args.place item c.requires.room ∙ ap Some (sym c.index_mut-hosted.ensures.value)) in
    let full = told_none (offered.Event o.event) o.dests entries c.in_ok-number.field-0 c.in_ok-number.ensures.told c.in-None.is in
    same_step (IsOfferedAt c.args.list.now c.args.place c.args.draft (server_of c.args.self.now)) (NotSent Limit) (NotSent Limit) (server_of c.args.self.now) _ refl
    (same_parts (server_of c.args.self.now) _ _ _ _ _ _ _ _
    (sym (same_seen (λ (h : HostedState). room_of h.room) hosted c.args.place c.outgoing_of.new.hosted item (c.in-Ok.ensures.room ∙ ap (λ (h : HostedState). room_of h.room) c.index_mut-hosted.ensures.value)))
    (sym (same_seen (λ (h : HostedState). h.queue) hosted c.args.place c.outgoing_of.new.hosted item (c.in-Ok.ensures.queue ∙ ap (λ (h : HostedState). h.queue) c.index_mut-hosted.ensures.value)))
    (sym (c.in_ok-number.ensures.entries ∙ ap (λ (b : Bool). if b then entries ++ entry.Event o.event o.dests ∷ [] else entries) full))
    (sym (ap ways_of (with_items_is c.args.self.now.ways c.enter.new.ways (omega (arith, c.in_ok-number.ensures.count, ap length c.deref_mut.ensures.value, c.args.self.now.ways.ok.0)))
    ∙ c.in_ok-number.ensures.ways ∙ ap (λ ls. ways_after (offered.Event o.event) o.dests entries (ways_of ls)) c.deref_mut.ensures.value
    ∙ ap (λ (b : Bool). if b then ways_beyond 0 entries (entries ++ entry.Event o.event o.dests ∷ []) ways else ways) full)))
    (event_limit c.args.list.now c.args.place c.args.draft (server_of c.args.self.now) (room_of item.room) o.prepared o.dests here c.in-Ok.ensures.made
    (subst (λ (r : RoomState). is_ready r.stored o.prepared.event.event ≡ true) c.in-Ok.ensures.room c.in-Ok.ensures.ready.ready) (record { rising = c.in_ok-number.ensures.rising; each = c.in-Ok.ensures.dests }) full)

pub returns-in-Some-clause-offered : goal.returns-in-Some-clause-offered
returns-in-Some-clause-offered c =
    let hosted = c.args.self.now.rooms.items in
    let item = c.index_mut-hosted.result.now in
    let entries = c.args.self.now.journal.entries in
    let ways = ways_of c.args.self.now.ways.items in
    let o = c.in-Ok.outgoing in
    let p = o.prepared in
    let here = slice_get-map (λ (h : HostedState). room_of h.room) hosted c.args.place
    ∙ ap (option_map (λ (h : HostedState). room_of h.room)) (slice_get-get_or hosted c.args.place item c.requires.room ∙ ap Some (sym c.index_mut-hosted.ensures.value)) in
    let told = told_some (offered.Event o.event) o.dests entries c.in_ok-number.field-0 c.in-Some.field-0 c.in_ok-number.ensures.told c.in-Some.is in
    let event : o.event ≡ p.event = c.in-Ok.ensures.event in
    let room : room_of c.commit.new.self.room ≡ committed (room_of item.room) p.event = c.commit.ensures.room ∙ ap (λ (r : RoomState). committed r p.event) c.in-Ok.ensures.room in
    same_step (IsOfferedAt c.args.list.now c.args.place c.args.draft (server_of c.args.self.now))
    (Sent (length (events_of (entries ++ entry.Event p.event o.dests ∷ []))) (open_among entries o.dests)) (Sent c.in-Some.field-0.number c.in-Some.field-0.dests)
    (with_stored (with_journal (server_of c.args.self.now) (entries ++ entry.Event p.event o.dests ∷ [])) c.args.place (committed (room_of item.room) p.event)) _
    (ap (λ e. Sent (length (events_of (entries ++ entry.Event e o.dests ∷ []))) (open_among entries o.dests)) (sym event) ∙ ap (λ (e : Entered). Sent e.number e.dests) (sym told.1))
    (same_parts (server_of c.args.self.now) _ _ _ _ _ _ _ _
    (sym (map-set (λ (h : HostedState). room_of h.room) hosted c.args.place c.commit.new.self ∙ ap (set (rooms_of hosted) c.args.place) room))
    (sym (same_seen (λ (h : HostedState). h.queue) hosted c.args.place c.commit.new.self item (c.commit.ensures.queue ∙ c.in-Ok.ensures.queue ∙ ap (λ (h : HostedState). h.queue) c.index_mut-hosted.ensures.value)))
    (sym (c.in_ok-number.ensures.entries ∙ ap (λ (b : Bool). if b then entries ++ entry.Event o.event o.dests ∷ [] else entries) told.0 ∙ ap (λ e. entries ++ entry.Event e o.dests ∷ []) event))
    (sym (ap ways_of (with_items_is c.args.self.now.ways c.enter.new.ways (omega (arith, c.in_ok-number.ensures.count, ap length c.deref_mut.ensures.value, c.args.self.now.ways.ok.0)))
    ∙ c.in_ok-number.ensures.ways ∙ ap (λ ls. ways_after (offered.Event o.event) o.dests entries (ways_of ls)) c.deref_mut.ensures.value
    ∙ ap (λ (b : Bool). if b then ways_beyond 0 entries (entries ++ entry.Event o.event o.dests ∷ []) ways else ways) told.0 ∙ ap (λ e. ways_beyond 0 entries (entries ++ entry.Event e o.dests ∷ []) ways) event)))
    (event_enters c.args.list.now c.args.place c.args.draft (server_of c.args.self.now) (room_of item.room) p o.dests here c.in-Ok.ensures.made
    (subst (λ (r : RoomState). is_ready r.stored p.event.event ≡ true) c.in-Ok.ensures.room c.in-Ok.ensures.ready.ready) (record { rising = c.in_ok-number.ensures.rising; each = c.in-Ok.ensures.dests }) told.0)
