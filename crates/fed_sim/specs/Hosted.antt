-- A room at a server, and the events that were taken for it and that it was not given yet.
use Rattle.std.specs.Prelude.{◌≡◌, ℕ, List, ◌∷◌, map, refl}
use Rattle.std.specs.Coded.{Coded, code_by, coded×, coded_ℕ, coded_list}
use Rattle.fed_event.specs.Checked.{CheckedEvent, checked_code}
use Rattle.fed_room_contract.specs.Room.{RoomState}
use Rattle.fed_room.specs.Room.{RoomValue, room_code, room_of}

-- the room, the queue, and for how many more events there is room
pub record HostedState : Type 0 where
  pub room : RoomValue
  pub queue : List CheckedEvent
  pub free : ℕ

abbrev pub hosted_code : Coded HostedState
hosted_code = code_by (RoomValue × (List CheckedEvent × ℕ)) (coded× room_code (coded× (coded_list checked_code) coded_ℕ)) (λ h. (h.room, (h.queue, h.free))) (λ p. record { room = p.0; queue = p.1.0; free = p.1.1 }) (λ _. refl)

-- of several: the rooms, and what was taken for each
abbrev pub rooms_of : List HostedState → List RoomState
rooms_of hosted = map (λ (h : HostedState). room_of h.room) hosted

abbrev pub arrivals_of : List HostedState → List (List CheckedEvent)
arrivals_of hosted = map (λ (h : HostedState). h.queue) hosted

-- the events of the room and the queue are as they were
pub record IsSame (old new : HostedState) : Type 0 where
  pub room : room_of new.room ≡ room_of old.room
  pub queue : new.queue ≡ old.queue

-- the first event of the queue was given to the room, and this became of it
abbrev pub IsGiven : HostedState → HostedState → (CheckedEvent → Type 0) → Type 0
IsGiven old new Became = (event : CheckedEvent) × ((old.queue ≡ event ∷ new.queue) × Became event)
