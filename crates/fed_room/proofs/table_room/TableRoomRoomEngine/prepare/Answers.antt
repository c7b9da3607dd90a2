use Rattle.std.proofs.Common.{rules, ◌≡◌, List, true, [], Ok, Err, refl, sym, ap, ◌∙◌, subst, inl}
use Rattle.std.specs.FinMap as finite
use Rattle.fed_event.specs.EventId.{event_id_of}
use Rattle.fed_room_contract.specs.Graph.{is_ready}
use Rattle.fed_room_contract.specs.Lawful.{NamesStored}
use Rattle.fed_room_contract.specs.Prepared.{PreparedEvent, signer_of}
use Rattle.fed_room.specs.Lawful.{before_stored}
use Rattle.fed_room.specs.Parts.{EventLinks, no_links}
use Rattle.fed_room.specs.Table.{before_at, verdict_at}
use Rattle.fed_room.specs.TableRoom.{TableRoomState, room_of, rules_of}
use Rattle.fed_room.specs.LinksParts.{links_seen}
use Rattle.fed_room_contract.specs.declared.graph.Stored.{Stored}
use Rattle.fed_room_contract.specs.Room.{event_id, version_of}
use Rattle.fed_room_contract.specs.Store.{StoreState}
use Rattle.fed_room.proofs.Allowing.{prepared-event, prepared-unmade, refused-by, accepted-by}
use Rattle.fed_room.proofs.Made.{ready_naming}
use Rattle.fed_room.proofs.table_room.TableRoomRoomEngine.prepare.Goals as goal

pub returns-in_err-check-clause-told : goal.returns-in_err-check-clause-told
returns-in_err-check-clause-told g c =
    let keys = c.args.keys.now in
    let signer = signer_of (g.K.Keys.own_name keys) (g.K.Keys.own_key keys) (g.K.Keys.own_signature keys) (g.K.Keys.checks keys) in
    let told : c.from_residual.result ≡ Err c.in_err-check.field-0.0 = search rules in
    let stored = (room_of c.args.self.now).stored in
    let links = no_links (version_of stored) in
    inl (told ∙ sym (prepared-unmade (rules_of c.args.self.now.table) signer stored links c.args.draft refl _ (c.in_err-check.ensures.told links)))

pub returns-in-Some-clause-told : goal.returns-in-Some-clause-told
returns-in-Some-clause-told g c =
    let keys = c.args.keys.now in
    let signer = signer_of (g.K.Keys.own_name keys) (g.K.Keys.own_key keys) (g.K.Keys.own_signature keys) (g.K.Keys.checks keys) in
    let table = c.args.self.now.table in
    let stored = (room_of c.args.self.now).stored in
    let event = c.in_ok-event.event in
    let links = c.none.ensures ∙ ap no_links (c.version.ensures ∙ ap (λ (r : TableRoomState). version_of r.store.room.stored) c.self.view_is) in
    let prepared = prepared-event (rules_of table) signer stored c.args.draft (no_links (version_of stored)) (links_seen c.none.result) refl links event c.in_ok-event.ensures.told in
    let decided : verdict_at table (event_id event) ≡ c.verdict.result = search rules in
    inl (sym (prepared ∙ refused-by (rules_of table) signer stored event c.verdict.result c.in-Some.rule decided (sym c.rule.ensures ∙ c.in-Some.is)))

pub returns-clause-told : goal.returns-clause-told
returns-clause-told g c =
    let keys = c.args.keys.now in
    let signer = signer_of (g.K.Keys.own_name keys) (g.K.Keys.own_key keys) (g.K.Keys.own_signature keys) (g.K.Keys.checks keys) in
    let table = c.args.self.now.table in
    let stored = (room_of c.args.self.now).stored in
    let event = c.in_ok-event.event in
    let links = c.none.ensures ∙ ap no_links (c.version.ensures ∙ ap (λ (r : TableRoomState). version_of r.store.room.stored) c.self.view_is) in
    let prepared = prepared-event (rules_of table) signer stored c.args.draft (no_links (version_of stored)) (links_seen c.none.result) refl links event c.in_ok-event.ensures.told in
    let decided : verdict_at table (event_id event) ≡ c.verdict.result = search rules in
    let made : c.in_ok-prepared.prepared ≡ record { event = event; before = before_at table event.event } = search rules in
    inl (ap (λ (p : PreparedEvent). Ok p) made ∙ sym (prepared ∙ accepted-by (rules_of table) signer stored event c.verdict.result decided (sym c.rule.ensures ∙ c.in_default.is)))

pub returns-clause-named : goal.returns-clause-named
returns-clause-named g c =
    let table = c.self.inside.table in
    let stored = (room_of c.args.self.now).stored in
    let event = c.in_ok-event.event.event in
    let before : c.in_ok-prepared.prepared.before ≡ before_at table event = ap (λ (p : PreparedEvent). p.before) c.in_ok-prepared.ensures ∙ c.in_ok-before.ensures ∙ ap (before_at table) c.event-3.ensures.event in
    let ready : is_ready stored event ≡ true =
    ready_naming stored event [] [] (c.in_ok-event.ensures.prev_events ∙ ap (λ (l : EventLinks). l.prev_events) c.none.ensures) (c.in_ok-event.ensures.auth_events ∙ ap (λ (l : EventLinks). l.auth_events) c.none.ensures) refl refl in
    subst (NamesStored stored) (sym before) (before_stored stored event (finite.get table.rows (event_id_of event)) ready)

pub returns-clause-ready : goal.returns-clause-ready
returns-clause-ready g c =
    let stored = (room_of c.args.self.now).stored in
    let event = c.in_ok-event.event.event in
    let ready : is_ready stored event ≡ true =
    ready_naming stored event [] [] (c.in_ok-event.ensures.prev_events ∙ ap (λ (l : EventLinks). l.prev_events) c.none.ensures) (c.in_ok-event.ensures.auth_events ∙ ap (λ (l : EventLinks). l.auth_events) c.none.ensures) refl refl in
    subst (λ (p : PreparedEvent). is_ready stored p.event.event ≡ true) (sym c.in_ok-prepared.ensures) ready

pub returns-clause-prepared : goal.returns-clause-prepared
returns-clause-prepared g c =
    let now : c.reserve.new.self.room.stored ≡ (room_of c.args.self.now).stored = ap (λ (s : StoreState). s.room.stored) c.in_ok-reserve.ensures.ok ∙ ap (λ (r : TableRoomState). r.store.room.stored) c.self.view_is in
    record {
      reserved = search rules;
      ready = ap (λ (events : List Stored). is_ready events c.in_ok-prepared.prepared.event.event) now ∙ returns-clause-ready g c;
    }
