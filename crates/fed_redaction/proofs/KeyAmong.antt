-- A key among keys.
use Rattle.std.proofs.Common.{◌≡◌, ℕ, List, [], ◌∷◌, ◌||◌, map, bytes_eq, Bor, refl, sym, ap₂}
use Rattle.std.specs.List.{list_any}
use Rattle.std.proofs.lemmas.Bool.Decides.{same_from_decides}
use Rattle.std.proofs.lemmas.Slice.Eq.{bytes_eq-Decides}
use Rattle.fed_redaction.specs.Names.{is_one_of}

bytes_eq-flip : (s t : List ℕ) → bytes_eq s t ≡ bytes_eq t s
bytes_eq-flip s t =
    let there = bytes_eq-Decides s t in
    let back = bytes_eq-Decides t s in
    same_from_decides {P = s ≡ t} (bytes_eq s t) (bytes_eq t s) there ((λ h. sym (back.0 h)), (λ h. back.1 (sym h)))

pub any-one_of : (keys : List (Bor (List ℕ))) (name : List ℕ) → list_any (λ y. bytes_eq y.now name) keys ≡ is_one_of (map (λ key. key.now) keys) name
any-one_of [] name = refl
any-one_of (key ∷ keys) name = ap₂ (λ a b. a || b) (bytes_eq-flip key.now name) (any-one_of keys name)
