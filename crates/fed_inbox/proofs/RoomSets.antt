-- Sets of rooms by their bytes.
use Rattle.std.proofs.Common.{◌≡◌, ℕ, List, [], ◌∷◌, map, Bool, Less, Equal, Greater, nat_cmp, String, string_bytes, bytes_eq, ◌||◌, refl, ap, ◌∙◌}
use Rattle.std.specs.declared.alloc.Global.{Global}
use Rattle.std.specs.List.{list_any}
use Rattle.std.specs.Ordering.{match_ordering}
use Rattle.std.specs.Cmp.Lexicographic.{slice_cmp}
use Rattle.std.specs.BTreeSet.{insert_key}
use Rattle.std.specs.BTreeMap.{is_at}
use Rattle.std.specs.String.{string_cmp}
use Rattle.std.proofs.lemmas.Map.Text.{is_eq-slice_cmp}
use Rattle.fed_event.specs.Names.{is_one_of}

pub inserted : (ks : List (String Global)) (k : String Global) → map string_bytes (insert_key string_cmp ks k) ≡ insert_key (slice_cmp nat_cmp) (map string_bytes ks) (string_bytes k)
inserted [] k = refl
inserted (x ∷ xs) k =
    elim (slice_cmp nat_cmp (string_bytes k) (string_bytes x)) as (λ o. map string_bytes (match_ordering o (k ∷ x ∷ xs) (x ∷ xs) (x ∷ insert_key string_cmp xs k))
    ≡ match_ordering o (string_bytes k ∷ string_bytes x ∷ map string_bytes xs) (string_bytes x ∷ map string_bytes xs) (string_bytes x ∷ insert_key (slice_cmp nat_cmp) (map string_bytes xs) (string_bytes k)))
    [ Less ↦ refl | Equal ↦ refl | Greater ↦ ap (λ ys. string_bytes x ∷ ys) (inserted xs k) ]

pub found : (room : List ℕ) (ks : List (String Global)) → list_any (is_at (λ k. slice_cmp nat_cmp room (string_bytes k))) ks ≡ is_one_of (map string_bytes ks) room
found room [] = refl
found room (x ∷ xs) = ap (λ b. b || is_room xs) (is_eq-slice_cmp room (string_bytes x)) ∙ ap (λ b. bytes_eq room (string_bytes x) || b) (found room xs)
  where
    is_room : List (String Global) → Bool
    is_room ks = list_any (is_at (λ k. slice_cmp nat_cmp room (string_bytes k))) ks
