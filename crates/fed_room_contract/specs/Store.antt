-- What contracts see of an `EventStore`: a room, and the id of the event for which room was made.
use Rattle.std.specs.Prelude.{ℕ, List, Option, Some, None, refl}
use Rattle.std.specs.Coded.{Coded, code_by, coded×, coded_ℕ, coded_list, coded_option}
use Rattle.fed_event.specs.Checked.{CheckedEvent, checked_code}
use Rattle.fed_room_contract.specs.declared.verdict.Verdict.{Verdict}
use Rattle.fed_room_contract.specs.declared.graph.Stored.{Stored}
use Rattle.fed_room_contract.specs.GraphState.{stored_code}
use Rattle.fed_room_contract.specs.Room.{RoomState, with_stored}

abbrev room_code : Coded RoomState
room_code =
    code_by (List Stored × (List CheckedEvent × ℕ)) (coded× (coded_list stored_code) (coded× (coded_list checked_code) coded_ℕ))
    (λ r. (r.stored, (r.waiting, r.dropped))) (λ p. record { stored = p.0; waiting = p.1.0; dropped = p.1.1 }) (λ _. refl)

pub record StoreState : Type 0 where
  pub room : RoomState
  pub reserved : Option (List ℕ)

abbrev pub store_code : Coded StoreState
store_code =
    code_by (RoomState × Option (List ℕ)) (coded× room_code (coded_option (coded_list coded_ℕ)))
    (λ s. (s.room, s.reserved)) (λ p. record { room = p.0; reserved = p.1 }) (λ _. refl)

-- room is made for the event of this id
abbrev pub with_room_for : StoreState → List ℕ → StoreState
with_room_for store id = record { room = store.room; reserved = Some id }

-- the event is stored with this verdict, which takes the room that was made
abbrev pub after_store : StoreState → CheckedEvent → Verdict → StoreState
after_store store event verdict = record { room = with_stored store.room event verdict; reserved = None }
