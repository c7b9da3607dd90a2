use Rattle.std.proofs.Common.{◌≡◌, List, [], ◌∷◌, ◌++◌, Option, None, Some, IfSome, refl, sym, ap, ◌∙◌, subst}
use Rattle.std.proofs.lemmas.Option.{slice_get_read}
use Rattle.std.specs.Prelude.{option_map}
use Rattle.std.specs.List.{slice_get, slice_index_or}
use Rattle.fed_event.specs.Event.{Event}
use Rattle.fed_event.specs.Checked.{CheckedEvent}
use Rattle.fed_event.specs.EventId.{event_id_of}
use Rattle.fed_room_contract.specs.declared.graph.Stored.{Stored}
use Rattle.fed_room_contract.specs.Graph.{IsGraph, is_ready}
use Rattle.fed_room_contract.specs.declared.receipt.Receipt.TheVariants as receipt
use Rattle.fed_room_contract.specs.Room.{event_id, first_ready, with_ready, with_stored}
use Rattle.fed_room_contract.specs.Store.{StoreState, after_store}
use Rattle.fed_room_contract.proofs.Apart.{found_passes}
use Rattle.fed_room.specs.Decision.{verdict_of}
use Rattle.fed_room.specs.Room.{RoomValue, room_of, room_rules}
use Rattle.fed_room.specs.RoomLawful.{kept-push}
use Rattle.fed_room.specs.States.{state_with, state_before, states_after}
use Rattle.fed_room_contract.specs.State.{StateMap}
use Rattle.fed_room_contract.specs.Steps.{KeptStates}
use Rattle.fed_room.specs.StatesParts.{after_seen}
use Rattle.fed_room.proofs.room.RoomRoomEngine.advance.Goals as goal

pub decided-requires : goal.decided-requires
decided-requires c =
    let old = c.self.inside.store in
    let place = c.in-Some.place in
    let event = c.index-waiting-place.result in
    let at : slice_get old.room.waiting place ≡ Some event = slice_get_read old.room.waiting _ place event refl c.in-Some.ensures.within (c.index-waiting-place.is ∙ ap (λ ws. slice_index_or ws place event) c.waiting.ensures) in
    let found : first_ready old.room ≡ Some event = c.in-Some.ensures.first ∙ at in
    sym (ap (λ (r : RoomValue). is_ready r.store.room.stored c.in_ok-waiting.waiting.event) c.self.view_is)
    ∙ ap (λ (e : CheckedEvent). is_ready old.room.stored e.event) c.in_ok-waiting.ensures ∙ found_passes (λ (w : CheckedEvent). is_ready old.room.stored w.event) old.room.waiting event found

pub invariant_of-self-2 : goal.invariant_of-self-2
invariant_of-self-2 c =
    let old = c.self.inside.store in
    let kept = c.self.inside.states.after in
    let place = c.in-Some.place in
    let event = c.index-waiting-place.result in
    let copied : c.in_ok-waiting.waiting ≡ event = c.in_ok-waiting.ensures in
    let verdict = c.in_ok-verdict.verdict in
    let last : Stored = record { event = event; verdict = verdict } in
    let at : slice_get old.room.waiting place ≡ Some event = slice_get_read old.room.waiting _ place event refl c.in-Some.ensures.within (c.index-waiting-place.is ∙ ap (λ ws. slice_index_or ws place event) c.waiting.ensures) in
    let room = c.in_ok-keep.ensures.room in
    let at-now : slice_get c.keep.new.store.room.waiting place ≡ Some event = ap (λ (s : StoreState). slice_get s.room.waiting place) room ∙ at in
    let new : c.store_waiting.new.self ≡ after_store c.keep.new.store event verdict =
    subst (λ (o : Option CheckedEvent). IfSome o (λ e. c.store_waiting.new.self ≡ after_store c.keep.new.store e verdict)) at-now c.store_waiting.ensures.stored in
    let stored : c.store_waiting.new.self.room.stored ≡ old.room.stored ++ last ∷ [] = ap (λ (s : StoreState). s.room.stored) new ∙ ap (λ (s : StoreState). s.room.stored ++ last ∷ []) room in
    let graph : IsGraph c.store_waiting.new.self.room.stored = c.store_waiting.ensures.graph in
    let seen : c.event-event.result.now ≡ event.event = c.event-event.ensures.event ∙ ap (λ (e : CheckedEvent). e.event) copied in
    let next : StateMap = after_seen kept c.event-event.result.now c.in_ok-verdict.after in
    let pushed : c.push_next.new.self ≡ record { after = kept ++ next ∷ []; next = None } =
    subst (λ (s : KeptStates). IfSome s.next (λ state. c.push_next.new.self ≡ record { after = s.after ++ state ∷ []; next = None })) c.in_ok-keep.ensures.ok c.push_next.ensures in
    let after : next ≡ state_with (state_before old.room.stored event.event) last =
    ap (λ (e : Event). after_seen kept e c.in_ok-verdict.after) seen
    ∙ ap (λ (xs : List StateMap). after_seen xs event.event c.in_ok-verdict.after) c.self.invariant.after
    ∙ sym (ap (λ (e : CheckedEvent). after_seen (states_after old.room.stored) e.event c.in_ok-verdict.after) copied)
    ∙ ap (λ (r : RoomValue). after_seen (states_after r.store.room.stored) c.in_ok-waiting.waiting.event c.in_ok-verdict.after) c.self.view_is ∙ c.in_ok-verdict.ensures.after
    ∙ ap (λ (r : RoomValue). state_with (state_before r.store.room.stored c.in_ok-waiting.waiting.event) (record { event = c.in_ok-waiting.waiting; verdict = verdict })) (sym c.self.view_is)
    ∙ ap (λ (e : CheckedEvent). state_with (state_before old.room.stored e.event) (record { event = e; verdict = verdict })) copied in
    record {
      graph = graph;
      after = ap (λ (s : KeptStates). s.after) pushed ∙ kept-push old.room.stored last kept next (subst IsGraph stored graph) c.self.invariant.after after ∙ ap states_after (sym stored);
    }

pub returns-clause-stored : goal.returns-clause-stored
returns-clause-stored c =
    let old = c.self.inside.store in
    let now = c.args.self.now.store.room.stored in
    let place = c.in-Some.place in
    let event = c.index-waiting-place.result in
    let copied : c.in_ok-waiting.waiting ≡ event = c.in_ok-waiting.ensures in
    let at : slice_get old.room.waiting place ≡ Some event = slice_get_read old.room.waiting _ place event refl c.in-Some.ensures.within (c.index-waiting-place.is ∙ ap (λ ws. slice_index_or ws place event) c.waiting.ensures) in
    let found : first_ready (room_of c.args.self.now) ≡ Some event = ap (λ (r : RoomValue). first_ready (room_of r)) (sym c.self.view_is) ∙ c.in-Some.ensures.first ∙ at in
    let id : c.in_ok-id.id ≡ event_id event = c.in_ok-id.ensures ∙ c.id.ensures ∙ ap event_id_of (c.event-event.ensures.event ∙ ap (λ (e : CheckedEvent). e.event) copied) in
    let verdict : c.in_ok-verdict.verdict ≡ verdict_of now event =
    c.in_ok-verdict.ensures.verdict ∙ ap (verdict_of now) copied in
    (λ i. Some (id i, receipt.Stored (verdict i))) ∙ sym (ap (option_map (λ (e : CheckedEvent). (event_id e, receipt.Stored (verdict_of now e)))) found)

pub returns-clause-after : goal.returns-clause-after
returns-clause-after c =
    let old = c.self.inside.store in
    let now = c.args.self.now.store.room.stored in
    let place = c.in-Some.place in
    let event = c.index-waiting-place.result in
    let copied : c.in_ok-waiting.waiting ≡ event = c.in_ok-waiting.ensures in
    let at : slice_get old.room.waiting place ≡ Some event = slice_get_read old.room.waiting _ place event refl c.in-Some.ensures.within (c.index-waiting-place.is ∙ ap (λ ws. slice_index_or ws place event) c.waiting.ensures) in
    let room = c.in_ok-keep.ensures.room in
    let at-now : slice_get c.keep.new.store.room.waiting place ≡ Some event = ap (λ (s : StoreState). slice_get s.room.waiting place) room ∙ at in
    let new : c.store_waiting.new.self ≡ after_store c.keep.new.store event c.in_ok-verdict.verdict =
    subst (λ (o : Option CheckedEvent). IfSome o (λ e. c.store_waiting.new.self ≡ after_store c.keep.new.store e c.in_ok-verdict.verdict)) at-now c.store_waiting.ensures.stored in
    let found : first_ready (room_of c.args.self.now) ≡ Some event = ap (λ (r : RoomValue). first_ready (room_of r)) (sym c.self.view_is) ∙ c.in-Some.ensures.first ∙ at in
    let verdict : c.in_ok-verdict.verdict ≡ verdict_of now event =
    c.in_ok-verdict.ensures.verdict ∙ ap (verdict_of now) copied in
    let same : c.keep.new.store.room ≡ room_of c.args.self.now = ap (λ (s : StoreState). s.room) room ∙ ap (λ (r : RoomValue). r.store.room) c.self.view_is in
    ap (λ (s : StoreState). s.room) new ∙ (λ i. with_stored (same i) event (verdict i)) ∙ sym (ap (with_ready room_rules (room_of c.args.self.now)) found)
