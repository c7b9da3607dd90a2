-- The place of a parcel: its destination, and its number among all parcels ever placed for that destination, from 1.
use Rattle.std.specs.Prelude.{ℕ, refl}
use Rattle.std.specs.Coded.{Coded, code_by, coded×, coded_ℕ}

pub record PlaceValue : Type 0 where
  pub dest : ℕ
  pub number : ℕ

abbrev pub place_code : Coded PlaceValue
place_code = code_by (ℕ × ℕ) (coded× coded_ℕ coded_ℕ) (λ p. (p.dest, p.number)) (λ p. record { dest = p.0; number = p.1 }) (λ _. refl)
