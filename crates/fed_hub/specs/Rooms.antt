-- What contracts see of the rooms of a hub.
use Rattle.std.specs.Prelude.{◌≡◌, ◌+◌, ◌||◌, ℕ, List, false, bytes_eq, refl}
use Rattle.std.specs.Coded.{Coded, code_by, coded×, coded_ℕ, coded_list}
use Rattle.fed_hub.specs.Setup.{has_room}

-- their ids, and how many there are
pub record RoomsShape : Type 0 where
  pub ids : List (List ℕ)
  pub count : ℕ

abbrev pub rooms_code : Coded RoomsShape
rooms_code = code_by (List (List ℕ) × ℕ) (coded× (coded_list (coded_list coded_ℕ)) coded_ℕ) (λ r. (r.ids, r.count)) (λ p. record { ids = p.0; count = p.1 }) (λ _. refl)

-- with one room more, whose id none had
pub record IsWithRoom (id : List ℕ) (old new : RoomsShape) : Type 0 where
  pub absent : has_room old.ids id ≡ false
  pub more : (other : List ℕ) → has_room new.ids other ≡ (bytes_eq other id || has_room old.ids other)
  pub one : new.count ≡ old.count + 1
