use Rattle.std.proofs.Common.{◌≡◌, true, sym, ap, ◌∙◌, subst}
use Rattle.std.specs.FinMap as finite
use Rattle.fed_event.specs.EventId.{event_id_of}
use Rattle.fed_room_contract.specs.Graph.{is_ready}
use Rattle.fed_room_contract.specs.Lawful.{NamesStored}
use Rattle.fed_room.specs.Lawful.{before_stored}
use Rattle.fed_room.specs.Table.{before_at}
use Rattle.fed_room.specs.TableRoom.{TableRoomState, room_of}
use Rattle.fed_room.proofs.table_room.TableRoomRoomEngine.state_before.Goals as goal

pub returns-in_ok-state_before-in-Some-clause-named : goal.returns-in_ok-state_before-in-Some-clause-named
returns-in_ok-state_before-in-Some-clause-named c =
    let table = c.self.inside.table in
    let stored = (room_of c.args.self.now).stored in
    let event = c.in-Some.stored.now.event.event in
    let before : c.in_ok-state_before-in-Some.field-0 ≡ before_at table event = c.in_ok-state_before-in-Some.ensures ∙ ap (before_at table) c.event.ensures.event in
    let ready : is_ready stored event ≡ true = ap (λ (r : TableRoomState). is_ready (room_of r).stored event) (sym c.self.view_is) ∙ c.in-Some.ensures.ready in
    subst (NamesStored stored) (sym before) (before_stored stored event (finite.get table.rows (event_id_of event)) ready)
