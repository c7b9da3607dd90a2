-- A room that goes by a table: what it keeps, and what it goes by.
use Rattle.std.specs.Prelude.{◌≡◌, true, Some, refl}
use Rattle.std.specs.Coded.{Coded, code_by, coded×}
use Rattle.fed_room_contract.specs.Graph.{is_ready}
use Rattle.fed_room_contract.specs.Prepared.{PreparedEvent}
use Rattle.fed_room_contract.specs.Room.{Rules, RoomState, event_id, version_of}
use Rattle.fed_room_contract.specs.Store.{StoreState, store_code}
use Rattle.fed_room.specs.Table.{TableState, table_code, verdict_at, before_at, current_at}
use Rattle.fed_room.specs.Parts.{no_links, parts_of}

pub record TableRoomState : Type 0 where
  pub table : TableState
  pub store : StoreState

abbrev pub table_room_code : Coded TableRoomState
table_room_code = code_by (TableState × StoreState) (coded× table_code store_code) (λ r. (r.table, r.store)) (λ p. record { table = p.0; store = p.1 }) (λ _. refl)

-- the events, without the table and the room that is made in the graph
abbrev pub room_of : TableRoomState → RoomState
room_of r = r.store.room

-- the table decides, whatever is stored
abbrev pub rules_of : TableState → Rules
rules_of table = record {
  decide = λ _ event. verdict_at table (event_id event);
  before = λ _ event. before_at table event;
  current = λ events. current_at table events;
  parts = λ events draft. parts_of (no_links (version_of events)) draft;
}

-- the store has room for the event, which is ready
pub record IsPrepared (r : TableRoomState) (p : PreparedEvent) : Type 0 where
  pub reserved : r.store.reserved ≡ Some (event_id p.event)
  pub ready : is_ready r.store.room.stored p.event.event ≡ true
