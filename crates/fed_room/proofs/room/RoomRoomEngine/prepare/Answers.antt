use Rattle.std.proofs.Common.{rules, ◌≡◌, List, true, Ok, Err, Some, refl, sym, ap, ◌∙◌, subst, inl}
use Rattle.std.specs.Arc.{arc_value}
use Rattle.std.specs.List.{list_all}
use Rattle.fed_event.specs.Event.{Event}
use Rattle.fed_event.specs.Checked.{CheckedEvent}
use Rattle.fed_room_contract.specs.Graph.{IsGraph, is_stored, is_ready}
use Rattle.fed_room_contract.specs.Lawful.{NamesStored}
use Rattle.fed_room_contract.specs.Prepared.{PreparedEvent, signer_of}
use Rattle.fed_room.specs.Links.{links_of, prev_events_for, selector_of_draft}
use Rattle.fed_room.specs.LinksParts.{links_seen}
use Rattle.fed_room.specs.Parts.{EventLinks}
use Rattle.fed_room.specs.Room.{RoomValue, room_rules}
use Rattle.fed_room.specs.RoomLawful.{resolved-named}
use Rattle.fed_room_contract.specs.declared.graph.Stored.{Stored}
use Rattle.fed_room_contract.specs.declared.verdict.Verdict.TheVariants.{Accepted}
use Rattle.fed_room_contract.specs.State.{StateMap}
use Rattle.fed_room_contract.specs.Store.{StoreState}
use Rattle.fed_room.specs.States.{resolved_after, state_before, state_with, states_after}
use Rattle.fed_room.specs.StatesParts.{after_seen, IsKeptIn, IsThereIn}
use Rattle.fed_room_contract.specs.Steps.{KeptStates}
use Rattle.fed_room.proofs.Allowing.{prepared-event, prepared-unmade, refused-by, accepted-by}
use Rattle.fed_room.proofs.Made.{ready_naming}
use Rattle.fed_room.proofs.Tips.{prev_events-stored, selection-stored}
use Rattle.fed_room.proofs.room.RoomRoomEngine.prepare.Goals as goal

pub returns-in_err-check-clause-told : goal.returns-in_err-check-clause-told
returns-in_err-check-clause-told g c =
    let keys = c.args.keys.now in
    let signer = signer_of (g.K.Keys.own_name keys) (g.K.Keys.own_key keys) (g.K.Keys.own_signature keys) (g.K.Keys.checks keys) in
    let stored = c.args.self.now.store.room.stored in
    let links = links_of stored c.args.draft in
    let told : c.from_residual.result ≡ Err c.in_err-check.field-0.0 = search rules in
    inl (told ∙ sym (prepared-unmade room_rules signer stored links c.args.draft refl _ (c.in_err-check.ensures.told links)))

pub returns-in-Some-clause-told : goal.returns-in-Some-clause-told
returns-in-Some-clause-told g c =
    let keys = c.args.keys.now in
    let signer = signer_of (g.K.Keys.own_name keys) (g.K.Keys.own_key keys) (g.K.Keys.own_signature keys) (g.K.Keys.checks keys) in
    let stored = c.args.self.now.store.room.stored in
    let draft = c.args.draft in
    let event = c.in_ok-event.event in
    let given = links_seen c.in_ok-links.links in
    let same : given ≡ links_of stored draft = c.in_ok-links.ensures.links in
    let prepared = prepared-event room_rules signer stored draft (links_of stored draft) given refl same event c.in_ok-event.ensures.told in
    inl (sym (prepared ∙ refused-by room_rules signer stored event c.in_ok-verdict.field-0 c.in-Some.rule (sym c.in_ok-verdict.ensures) (sym c.rule.ensures ∙ c.in-Some.is)))

pub returns-clause-told : goal.returns-clause-told
returns-clause-told g c =
    let keys = c.args.keys.now in
    let signer = signer_of (g.K.Keys.own_name keys) (g.K.Keys.own_key keys) (g.K.Keys.own_signature keys) (g.K.Keys.checks keys) in
    let stored = c.args.self.now.store.room.stored in
    let draft = c.args.draft in
    let event = c.in_ok-event.event in
    let given = links_seen c.in_ok-links.links in
    let same : given ≡ links_of stored draft = c.in_ok-links.ensures.links in
    let prepared = prepared-event room_rules signer stored draft (links_of stored draft) given refl same event c.in_ok-event.ensures.told in
    let states = c.self.inside.states.after in
    let kept : IsKeptIn states c.in_ok-links.before =
    subst (λ (xs : List StateMap). IsKeptIn xs c.in_ok-links.before) (sym (c.self.invariant.after ∙ ap (λ (r : RoomValue). states_after r.store.room.stored) c.self.view_is)) c.in_ok-links.ensures.kept in
    let before : arc_value c.in_ok-state.state ≡ state_before stored event.event =
    c.in_ok-state.ensures.state ∙ c.in_ok-shared.ensures.state states kept ∙ c.in_ok-links.ensures.before ∙ ap (resolved_after stored) (sym c.in_ok-event.ensures.prev_events) in
    let made : c.in_ok-prepared.prepared ≡ record { event = event; before = state_before stored event.event } = c.in_ok-prepared.ensures ∙ ap (λ b. record { event = event; before = b }) before in
    inl (ap (λ (p : PreparedEvent). Ok p) made
    ∙ sym (prepared ∙ accepted-by room_rules signer stored event c.in_ok-verdict.field-0 (sym c.in_ok-verdict.ensures) (sym c.rule.ensures ∙ c.in_default.is)))

pub returns-clause-named : goal.returns-clause-named
returns-clause-named g c =
    let stored = c.args.self.now.store.room.stored in
    let graph : IsGraph stored = subst (λ (r : RoomValue). IsGraph r.store.room.stored) c.self.view_is c.self.invariant.graph in
    let states = c.self.inside.states.after in
    let kept : IsKeptIn states c.in_ok-links.before =
    subst (λ (xs : List StateMap). IsKeptIn xs c.in_ok-links.before) (sym (c.self.invariant.after ∙ ap (λ (r : RoomValue). states_after r.store.room.stored) c.self.view_is)) c.in_ok-links.ensures.kept in
    let before = c.in_ok-state.ensures.state ∙ c.in_ok-shared.ensures.state states kept ∙ c.in_ok-links.ensures.before in
    subst (NamesStored stored) (sym (ap (λ (p : PreparedEvent). p.before) c.in_ok-prepared.ensures ∙ before)) (resolved-named stored c.in_ok-links.links.prev_events.items graph)

pub returns-clause-ready : goal.returns-clause-ready
returns-clause-ready g c =
    let stored = c.args.self.now.store.room.stored in
    let event = c.in_ok-event.event.event in
    let graph : IsGraph stored = subst (λ (r : RoomValue). IsGraph r.store.room.stored) c.self.view_is c.self.invariant.graph in
    let same : links_seen c.in_ok-links.links ≡ links_of stored c.args.draft = c.in_ok-links.ensures.links in
    let prev : list_all (is_stored stored) c.in_ok-links.links.prev_events.items ≡ true = ap (λ (l : EventLinks). list_all (is_stored stored) l.prev_events) same ∙ prev_events-stored stored in
    let auth : list_all (is_stored stored) c.in_ok-links.links.auth_events.items ≡ true =
    ap (λ (l : EventLinks). list_all (is_stored stored) l.auth_events) same
    ∙ selection-stored stored (resolved_after stored (prev_events_for stored)) (resolved-named stored (prev_events_for stored) graph) (selector_of_draft c.args.draft) in
    let ready : is_ready stored event ≡ true =
    ready_naming stored event c.in_ok-links.links.prev_events.items c.in_ok-links.links.auth_events.items c.in_ok-event.ensures.prev_events c.in_ok-event.ensures.auth_events prev auth in
    subst (λ (p : PreparedEvent). is_ready stored p.event.event ≡ true) (sym c.in_ok-prepared.ensures) ready

pub returns-clause-prepared : goal.returns-clause-prepared
returns-clause-prepared g c =
    let stored = c.args.self.now.store.room.stored in
    let now : c.keep.new.store.room.stored ≡ stored = ap (λ (s : StoreState). s.room.stored) c.in_ok-keep.ensures.room ∙ ap (λ (r : RoomValue). r.store.room.stored) c.self.view_is in
    let event = c.in_ok-event.event in
    let last : Stored = record { event = event; verdict = Accepted } in
    let states = c.self.inside.states.after in
    let kept : IsKeptIn states c.in_ok-links.before =
    subst (λ (xs : List StateMap). IsKeptIn xs c.in_ok-links.before) (sym (c.self.invariant.after ∙ ap (λ (r : RoomValue). states_after r.store.room.stored) c.self.view_is)) c.in_ok-links.ensures.kept in
    let before = c.in_ok-links.ensures.before ∙ ap (resolved_after stored) (sym c.in_ok-event.ensures.prev_events) in
    let same : c.share.new.states ≡ c.self.inside.states = c.share.ensures.same in
    let after : after_seen states event.event c.in_ok-after.after ≡ state_with (state_before stored event.event) last =
    c.in_ok-after.ensures.state states kept ∙ ap (λ (b : StateMap). state_with b last) before in
    let given : c.event-event.result.now ≡ event.event = c.event-event.ensures.event ∙ ap (λ (e : CheckedEvent). e.event) (c.event-2.ensures ∙ ap (λ (p : PreparedEvent). p.event) c.in_ok-prepared.ensures) in
    let next : c.keep.new.states.next ≡ Some (state_with (state_before c.keep.new.store.room.stored event.event) last) =
    ap (λ (s : KeptStates). s.next) c.in_ok-keep.ensures.ok ∙ ap (λ (s : KeptStates). Some (after_seen s.after c.event-event.result.now c.in_ok-after.after)) same
    ∙ ap (λ (e : Event). Some (after_seen states e c.in_ok-after.after)) given ∙ ap (λ (b : StateMap). Some b) after
    ∙ ap (λ (events : List Stored). Some (state_with (state_before events event.event) (record { event = event; verdict = Accepted }))) (sym now) in
    record {
      reserved = search rules;
      ready = ap (λ (events : List Stored). is_ready events c.in_ok-prepared.prepared.event.event) now ∙ returns-clause-ready g c;
      next = next ∙ ap (λ (p : PreparedEvent). Some (state_with (state_before c.keep.new.store.room.stored p.event.event) (record { event = p.event; verdict = Accepted }))) (sym c.in_ok-prepared.ensures);
    }

pub keep-requires : goal.keep-requires
keep-requires g c =
    let states = c.self.inside.states.after in
    let kept : IsKeptIn states c.in_ok-links.before =
    subst (λ (xs : List StateMap). IsKeptIn xs c.in_ok-links.before) (sym (c.self.invariant.after ∙ ap (λ (r : RoomValue). states_after r.store.room.stored) c.self.view_is)) c.in_ok-links.ensures.kept in
    subst (λ (s : KeptStates). IsThereIn s.after c.in_ok-after.after) (sym c.share.ensures.same) (c.in_ok-after.ensures.there states kept)

pub share-requires : goal.share-requires
share-requires g c =
    let states = c.self.inside.states.after in
    let kept : IsKeptIn states c.in_ok-links.before =
    subst (λ (xs : List StateMap). IsKeptIn xs c.in_ok-links.before) (sym (c.self.invariant.after ∙ ap (λ (r : RoomValue). states_after r.store.room.stored) c.self.view_is)) c.in_ok-links.ensures.kept in
    c.in_ok-shared.ensures.there states kept
