-- Ids of which two are one, found while they are taken in one after another.
use Rattle.std.proofs.Common.{◌≡◌, ℕ, List, [], ◌∷◌, Bool, true, false, ◌||◌, bytes_eq, refl, sym, ap, ◌∙◌}
use Rattle.std.specs.List.{list_any}
use Rattle.std.specs.Cmp.Lexicographic.{nat_list_eq_equiv}
use Rattle.fed_hub.specs.Setup.{has_room}
use Rattle.fed_dest.specs.List.{has_doubled}

-- some of these are among those that were taken in
abbrev pub some_in : List (List ℕ) → List (List ℕ) → Bool
some_in all rest = list_any (has_room all) rest

-- two of them are one, or one of those that are left is among those that were taken in
abbrev pub doubled_yet : List (List ℕ) → List (List ℕ) → Bool
doubled_yet all rest = some_in all rest || has_doubled rest

none_in : (rest : List (List ℕ)) → some_in [] rest ≡ false
none_in [] = refl
none_in (x ∷ xs) = none_in xs

pub doubled_at_first : (rest : List (List ℕ)) → doubled_yet [] rest ≡ has_doubled rest
doubled_at_first rest = ap (λ b. b || has_doubled rest) (none_in rest)

spread : (x : List ℕ) (all new xs : List (List ℕ)) → ((y : List ℕ) → has_room new y ≡ (bytes_eq y x || has_room all y)) → some_in new xs ≡ (list_any (bytes_eq x) xs || some_in all xs)
spread x all new [] is = refl
spread x all new (y ∷ ys) is =
    (λ i. (is y ∙ ap (λ b. b || has_room all y) (nat_list_eq_equiv.symm y x)) i || spread x all new ys is i)
    ∙ regroup (bytes_eq x y) (has_room all y) (list_any (bytes_eq x) ys) (some_in all ys)
  where
    regroup : (a b c d : Bool) → ((a || b) || (c || d)) ≡ ((a || c) || (b || d))
    regroup true b c d = refl
    regroup false true true d = refl
    regroup false true false d = refl
    regroup false false c d = refl

turned : (a b d : Bool) → (a || (b || d)) ≡ ((b || a) || d)
turned true true d = refl
turned true false d = refl
turned false true d = refl
turned false false d = refl

pub doubled_still : (x : List ℕ) (all new xs : List (List ℕ)) → has_room all x ≡ false → ((y : List ℕ) → has_room new y ≡ (bytes_eq y x || has_room all y)) → doubled_yet all (x ∷ xs) ≡ doubled_yet new xs
doubled_still x all new xs none is =
    ap (λ b. (b || some_in all xs) || (list_any (bytes_eq x) xs || has_doubled xs)) none
    ∙ turned (some_in all xs) (list_any (bytes_eq x) xs) (has_doubled xs)
    ∙ ap (λ b. b || has_doubled xs) (sym (spread x all new xs is))

pub doubled_now : (x : List ℕ) (all xs : List (List ℕ)) → has_room all x ≡ true → doubled_yet all (x ∷ xs) ≡ true
doubled_now x all xs is = ap (λ b. (b || some_in all xs) || has_doubled (x ∷ xs)) is
