use Rattle.std.proofs.Common.{◌≡◌, ◌<◌, ◌++◌, ◌∷◌, [], List, Option, None, Some, IfSome, find, length, ℕ, map, option_map, refl, sym, ap, ◌∙◌, subst}
use Rattle.std.proofs.lemmas.Option.{slice_get_read}
use Rattle.std.specs.List.{remove, slice_get}
use Rattle.fed_event.specs.Checked.{CheckedEvent}
use Rattle.fed_room_contract.specs.Graph.{is_ready}
use Rattle.fed_room_contract.specs.Room.{event_id, none_stored, without, first_ready}
use Rattle.fed_room_contract.specs.LackParts.{lack_of}
use Rattle.fed_room_contract.specs.Store.{StoreState, after_store}
use Rattle.fed_room_contract.proofs.Apart.{found_passes}
use Rattle.fed_room_contract.proofs.LackLists.{map-remove}
use Rattle.fed_room_contract.proofs.Stores.{apart-without, without-taken}
use Rattle.fed_room_contract.proofs.store.EventStore.store_waiting.Goals as goal

pub invariant_of-self : goal.invariant_of-self
invariant_of-self c =
    let inside = c.self.inside in
    record {
      graph = c.self.invariant.graph;
      apart = ap (none_stored inside.graph.stored) c.remove-event.ensures.items ∙ apart-without inside.graph.stored inside.waiting.items c.args.place c.self.invariant.apart;
      lacks = c.remove.ensures.items ∙ ap (λ (ls : List (Option ℕ)). remove ls c.args.place) c.self.invariant.lacks
          ∙ sym (map-remove (lack_of inside.graph.stored) inside.waiting.items c.args.place) ∙ ap (map (lack_of inside.graph.stored)) (sym c.remove-event.ensures.items);
      extremities = c.self.invariant.extremities;
      spare = c.self.invariant.spare;
    }

pub store-requires-clause-reserved : goal.store-requires-clause-reserved
store-requires-clause-reserved c =
    let waiting = c.self.inside.waiting.items in
    let within : c.args.place < length waiting = subst (λ (s : StoreState). c.args.place < length s.room.waiting) (sym c.self.view_is) c.requires.first.within in
    let taken : slice_get waiting c.args.place ≡ Some c.remove-event.result = slice_get_read waiting (length waiting) c.args.place c.remove-event.result refl within c.remove-event.ensures.value in
    sym (ap (option_map event_id) (sym taken) ∙ ap (λ (s : StoreState). option_map event_id (slice_get s.room.waiting c.args.place)) c.self.view_is ∙ c.requires.reserved ∙ ap (λ (s : StoreState). s.reserved) (sym c.self.view_is))

pub store-requires-clause-ready : goal.store-requires-clause-ready
store-requires-clause-ready c =
    let inside = c.self.inside in
    let waiting = inside.waiting.items in
    let ready : CheckedEvent → _ = λ event. is_ready inside.graph.stored event.event in
    let within : c.args.place < length waiting = subst (λ (s : StoreState). c.args.place < length s.room.waiting) (sym c.self.view_is) c.requires.first.within in
    let taken : slice_get waiting c.args.place ≡ Some c.remove-event.result = slice_get_read waiting (length waiting) c.args.place c.remove-event.result refl within c.remove-event.ensures.value in
    let first : find ready waiting ≡ Some c.remove-event.result =
    ap (λ (s : StoreState). first_ready s.room) c.self.view_is ∙ c.requires.first.first ∙ ap (λ (s : StoreState). slice_get s.room.waiting c.args.place) (sym c.self.view_is) ∙ taken in
    found_passes ready waiting c.remove-event.result first

pub returns-clause-stored : goal.returns-clause-stored
returns-clause-stored c =
    let waiting = c.self.inside.waiting.items in
    let event = c.remove-event.result in
    let self = c.args.self.now in
    let within : c.args.place < length waiting = subst (λ (s : StoreState). c.args.place < length s.room.waiting) (sym c.self.view_is) c.requires.first.within in
    let taken : slice_get waiting c.args.place ≡ Some event = slice_get_read waiting (length waiting) c.args.place event refl within c.remove-event.ensures.value in
    let there : slice_get self.room.waiting c.args.place ≡ Some event = ap (λ (s : StoreState). slice_get s.room.waiting c.args.place) (sym c.self.view_is) ∙ taken in
    let rest : List CheckedEvent → StoreState = λ (ws : List CheckedEvent). record {
      room = record { stored = c.self.inside.graph.stored ++ (record { event = event; verdict = c.args.verdict }) ∷ []; waiting = ws; dropped = c.self.inside.dropped };
      reserved = None;
    } in
    let after : rest (without (event_id event) c.remove-event.new.self.items) ≡ after_store self event c.args.verdict =
    ap (λ (ws : List CheckedEvent). rest (without (event_id event) ws)) c.remove-event.ensures.items
    ∙ ap rest (without-taken waiting c.args.place event taken)
    ∙ ap (λ (s : StoreState). after_store s event c.args.verdict) c.self.view_is in
    subst (λ (o : Option CheckedEvent). IfSome o (λ event. c.store.new.self ≡ after_store self event c.args.verdict)) (sym there) (c.store.ensures.stored ∙ after)
