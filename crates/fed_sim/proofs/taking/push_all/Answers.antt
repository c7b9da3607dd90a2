use Rattle.std.proofs.Common.{arith, ◌≡◌, ◌≤◌, ◌<◌, ◌∷◌, [], All, length, length-set, map, string_bytes, String, Global, bytes_eq, position, Some, IsSome, IfSome, refl, sym, ap, subst, ◌∙◌}
use Rattle.std.proofs.lemmas.List.Elements.{All-head, All-tail}
use Rattle.std.proofs.lemmas.Option.{slice_get-get_or}
use Rattle.fed_event.specs.Fields.{room_id_of}
use Rattle.fed_dest.specs.List.{place_of}
use Rattle.fed_room.specs.Room.{RoomValue, room_of}
use Rattle.fed_sim.specs.Hosted.{HostedState, arrivals_of}
use Rattle.fed_sim.specs.Taking.{IsOfKnown}
use Rattle.fed_inbox.specs.Queues.{queues_from}
use Rattle.fed_sim.proofs.WayQueues.{same_seen, none_left, set_all}
use Rattle.fed_sim.proofs.Servers.{place_named}
use Rattle.fed_sim.proofs.Arrivals.{nothing_arrives, arrives_here}
use Rattle.fed_sim.proofs.taking.push_all.Goals as goal

pub loop-event-init : goal.loop-event-init
loop-event-init c =
    let known = map string_bytes c.args.known.now in
    let gives : c.into_iter-event-iterator.result.rest.items ≡ c.args.events.items = c.into_iter-event-iterator.ensures.into_iter_gives.0 in (
      λ k room here. let same = ap length gives in let more = c.requires.room k room here in omega arith,
      refl,
      refl,
      ap (λ es. queues_from 0 known es (arrivals_of c.args.rooms.now)) gives,
      subst (All (IsOfKnown known)) (sym gives) c.requires.events,
    )

pub unwrap-place-requires : goal.unwrap-place-requires
unwrap-place-requires c =
    let known = map string_bytes c.args.known.now in
    let first : IsOfKnown known c.in-Some.event = All-head (IsOfKnown known) c.in-Some.event c.next.new.self.rest.items (subst (All (IsOfKnown known)) c.in-Some.ensures.steps.0 c.loop-event.invariant.4) in
    let room : c.room_id.result.now ≡ room_id_of c.in-Some.event.event = c.room_id.ensures ∙ ap room_id_of c.event.ensures.event in
    subst IsSome (sym (place_named c.args.known.now (room_id_of c.in-Some.event.event)) ∙ ap (λ r. position (λ (id : String Global). bytes_eq (string_bytes id) r) c.args.known.now) (sym room) ∙ sym c.place_of.ensures.place) first

pub push-requires : goal.push-requires
push-requires c =
    let place = c.unwrap-place.result in
    let rooms = c.loop-event.rooms in
    let fewer = ap length c.in-Some.ensures.steps.0 in
    let listed : place < length c.args.known.now = subst (λ o. IfSome o (λ p. p < length c.args.known.now)) c.unwrap-place.ensures c.place_of.ensures.within in
    let within : place < length rooms = omega (arith, listed, c.requires.known, c.loop-event.invariant.1) in
    let before = c.loop-event.invariant.0 place _ (slice_get-get_or rooms place c.index-rooms-place.result within) in
    omega arith

pub loop-event-preserved : goal.loop-event-preserved
loop-event-preserved c =
    let place = c.unwrap-place.result in
    let event = c.in-Some.event in
    let later = c.next.new.self.rest.items in
    let rooms = c.loop-event.rooms in
    let known = map string_bytes c.args.known.now in
    let taken : c.loop-event.event-iterator.rest.items ≡ event ∷ later = c.in-Some.ensures.steps.0 in
    let fewer = ap length taken in
    let room : c.room_id.result.now ≡ room_id_of event.event = c.room_id.ensures ∙ ap room_id_of c.event.ensures.event in
    let is : place_of known (room_id_of event.event) ≡ Some place =
    sym (place_named c.args.known.now (room_id_of event.event)) ∙ ap (λ r. position (λ (id : String Global). bytes_eq (string_bytes id) r) c.args.known.now) (sym room)
    ∙ sym c.place_of.ensures.place ∙ c.unwrap-place.ensures in
    let listed : place < length c.args.known.now = subst (λ o. IfSome o (λ p. p < length c.args.known.now)) c.unwrap-place.ensures c.place_of.ensures.within in
    let within : place < length rooms = omega (arith, listed, c.requires.known, c.loop-event.invariant.1) in
    let here = slice_get-get_or rooms place c.index-rooms-place.result within in (
      set_all (λ _ (h : HostedState). length later ≤ h.free) rooms place c.push.new.self
          (let before = c.loop-event.invariant.0 place _ here in let used = c.push.ensures.free in omega arith)
          (λ d h _ there. let before = c.loop-event.invariant.0 d h there in omega arith),
      length-set rooms place c.push.new.self ∙ c.loop-event.invariant.1,
      same_seen (λ (h : HostedState). room_of h.room) rooms place c.push.new.self c.index-rooms-place.result (ap (λ (r : RoomValue). room_of r) c.push.ensures.room) ∙ c.loop-event.invariant.2,
      arrives_here known event later rooms place _ c.push.new.self is here c.push.ensures.queue
          ∙ ap (λ es. queues_from 0 known es (arrivals_of rooms)) (sym taken) ∙ c.loop-event.invariant.3,
      All-tail (IsOfKnown known) event later (subst (All (IsOfKnown known)) taken c.loop-event.invariant.4),
    )

pub returns-clause-arrivals : goal.returns-clause-arrivals
returns-clause-arrivals c =
    let rooms = c.loop-event.rooms in
    let known = map string_bytes c.args.known.now in
    let none : c.loop-event.event-iterator.rest.items ≡ [] = none_left c.loop-event.event-iterator.rest.items (omega (arith, c.in-None.ensures.steps.0, c.loop-event.event-iterator.rest.ok.0)) in
    sym (nothing_arrives known 0 (arrivals_of rooms)) ∙ ap (λ es. queues_from 0 known es (arrivals_of rooms)) (sym none) ∙ c.loop-event.invariant.3
