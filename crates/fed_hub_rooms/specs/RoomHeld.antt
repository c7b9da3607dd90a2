-- What contracts see of what the thread of one room holds.
use Rattle.std.specs.Prelude.{◌≡◌, ℕ, Bool, false, List, [], ◌∷◌, ◌++◌, Option, Some, None, refl}
use Rattle.std.specs.Coded.{Coded, code_by, coded×, coded_ℕ, coded_bool, coded_list, coded_option}
use Rattle.fed_event.specs.Checked.{CheckedEvent, checked_code}

-- the place of the room, all events that came over its wire, whether the end that sends was seen to be gone, an event in hand, and the events that
-- the room was given, in order
pub record RoomHeld : Type 0 where
  pub room : ℕ
  pub received : List CheckedEvent
  pub gone : Bool
  pub hand : Option CheckedEvent
  pub given : List CheckedEvent

abbrev pub held_new : ℕ → RoomHeld
held_new room = record { room = room; received = []; gone = false; hand = None; given = [] }

abbrev pub in_hand : Option CheckedEvent → List CheckedEvent
in_hand None = []
in_hand (Some event) = event ∷ []

-- the room was given all that came, but for what is in hand
abbrev pub IsWhole : RoomHeld → Type 0
IsWhole h = h.received ≡ h.given ++ in_hand h.hand

abbrev pub held_code : Coded RoomHeld
held_code =
    code_by (ℕ × (List CheckedEvent × (Bool × (Option CheckedEvent × List CheckedEvent))))
    (coded× coded_ℕ (coded× (coded_list checked_code) (coded× coded_bool (coded× (coded_option checked_code) (coded_list checked_code)))))
    (λ h. (h.room, (h.received, (h.gone, (h.hand, h.given)))))
    (λ p. record { room = p.0; received = p.1.0; gone = p.1.1.0; hand = p.1.1.1.0; given = p.1.1.1.1 })
    (λ _. refl)
