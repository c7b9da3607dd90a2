-- What contracts see of what a thread that sends to one destination holds.
use Rattle.std.specs.Prelude.{◌≡◌, ℕ, Bool, false, List, [], Option, None, refl}
use mathlib.Core.List.{IsPrefix}
use Rattle.std.specs.Coded.{Coded, code_by, coded×, coded_ℕ, coded_bool, coded_list, coded_option}
use Rattle.fed_journal.specs.declared.parcel.Parcel.{Parcel}
use Rattle.fed_journal.specs.Parcel.{parcel_code}

-- the destination, all that came over its wire, whether the end that sends was seen to be gone, the parcel in hand, and whether the last of all
-- parcels, an end, was moved into the outbox
pub record Held : Type 0 where
  pub dest : ℕ
  pub received : List Parcel
  pub gone : Bool
  pub hand : Option Parcel
  pub ended : Bool

abbrev pub held_new : ℕ → Held
held_new dest = record { dest = dest; received = []; gone = false; hand = None; ended = false }

-- it is for the same destination, and what came over the wire is a front of what came in the end
pub record GoesOn (old new : Held) : Type 0 where
  pub dest : new.dest ≡ old.dest
  pub received : IsPrefix old.received new.received

abbrev pub held_code : Coded Held
held_code =
    code_by (ℕ × (List Parcel × (Bool × (Option Parcel × Bool))))
    (coded× coded_ℕ (coded× (coded_list parcel_code) (coded× coded_bool (coded× (coded_option parcel_code) coded_bool))))
    (λ h. (h.dest, (h.received, (h.gone, (h.hand, h.ended)))))
    (λ p. record { dest = p.0; received = p.1.0; gone = p.1.1.0; hand = p.1.1.1.0; ended = p.1.1.1.1 })
    (λ _. refl)
