-- A room by the standard: what it keeps, and what it goes by.
use Rattle.std.specs.Prelude.{◌≡◌, ℕ, List, true, Option, Some, refl}
use Rattle.std.specs.Coded.{Coded, code_by, coded×, coded_ℕ, coded_list, coded_option}
use Rattle.fed_room_contract.specs.declared.verdict.Verdict.TheVariants.{Accepted}
use Rattle.fed_room_contract.specs.Graph.{is_ready}
use Rattle.fed_room_contract.specs.Prepared.{PreparedEvent}
use Rattle.fed_room_contract.specs.Room.{Rules, RoomState, event_id}
use Rattle.fed_room_contract.specs.State.{StateMap, state_code}
use Rattle.fed_room_contract.specs.Store.{StoreState, store_code}
use Rattle.fed_room.specs.Decision.{verdict_of}
use Rattle.fed_room.specs.Links.{links_of}
use Rattle.fed_room.specs.Parts.{parts_of}
use Rattle.fed_room.specs.States.{state_with, state_before, current_state}

-- the name of the own server, the events, and the state after the next event, where it is made already
pub record RoomValue : Type 0 where
  pub own : List ℕ
  pub store : StoreState
  pub next : Option StateMap

abbrev pub room_code : Coded RoomValue
room_code =
    code_by (List ℕ × (StoreState × Option StateMap)) (coded× (coded_list coded_ℕ) (coded× store_code (coded_option state_code)))
    (λ r. (r.own, (r.store, r.next))) (λ p. record { own = p.0; store = p.1.0; next = p.1.1 }) (λ _. refl)

-- the events, without the room that is made in the graph
abbrev pub room_of : RoomValue → RoomState
room_of r = r.store.room

-- the verdict, the state before an event, the current state, and what is made of a draft, by the events that are stored
abbrev pub room_rules : Rules
room_rules = record {
  decide = λ events event. verdict_of events event;
  before = λ events event. state_before events event;
  current = λ events. current_state events;
  parts = λ events draft. parts_of (links_of events draft) draft;
}

-- the store has room for the event, which is ready, and the state after it is made
pub record IsPrepared (r : RoomValue) (p : PreparedEvent) : Type 0 where
  pub reserved : r.store.reserved ≡ Some (event_id p.event)
  pub ready : is_ready r.store.room.stored p.event.event ≡ true
  pub next : r.next ≡ Some (state_with (state_before r.store.room.stored p.event.event) (record { event = p.event; verdict = Accepted }))
