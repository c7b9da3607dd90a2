-- What contracts see of a room under its lock: the room, the events that it began with, what it was given since, and for how many more inputs
-- there is room.
use Rattle.std.specs.Prelude.{ℕ, List, [], ◌∷◌, refl}
use Rattle.std.specs.Coded.{Coded, code_by, coded×, coded_ℕ, coded_list}
use Rattle.fed_event.specs.Checked.{CheckedEvent, checked_code}
use Rattle.fed_event.specs.Fields.{room_id_of}
use Rattle.fed_room_contract.specs.declared.input.Input.{Input}
use Rattle.fed_room_contract.specs.Runs.{input_code}
use Rattle.fed_room.specs.Room.{RoomValue, room_code}

pub record KeptState : Type 0 where
  pub room : RoomValue
  pub start : List CheckedEvent
  pub inputs : List Input
  pub free : ℕ

-- the room's id, that of the first of the events that it began with
abbrev pub id_of_first : List CheckedEvent → List ℕ
id_of_first [] = []
id_of_first (event ∷ events) = room_id_of event.event

abbrev pub id_of : KeptState → List ℕ
id_of k = id_of_first k.start

abbrev pub kept_code : Coded KeptState
kept_code =
    code_by (RoomValue × (List CheckedEvent × (List Input × ℕ))) (coded× room_code (coded× (coded_list checked_code) (coded× (coded_list input_code) coded_ℕ)))
    (λ k. (k.room, (k.start, (k.inputs, k.free)))) (λ p. record { room = p.0; start = p.1.0; inputs = p.1.1.0; free = p.1.1.1 }) (λ _. refl)
