-- Names in order, and names that stand twice.
use Rattle.std.proofs.Common.{arith, map, subst, Result, ◌≡◌, ◌||◌, ℕ, ◌+◌, ◌<◌, ◌≤◌, List, [], ◌∷◌, Bool, length, slice_index_or, false, true, Some, None, Ordering, Less, Equal, Greater, nat_cmp, bytes_eq, refl, sym, ap, ◌∙◌}
use Rattle.std.specs.Cmp.Lexicographic.{slice_cmp, nat_list_cmp_total, nat_list_eq_equiv}
use Rattle.std.specs.Ordering.{is_lt, ordering_reverse}
use Rattle.std.specs.List.{list_any, AllByRecursion, AllAdjacentBelow, IsDistinct}
use Rattle.std.specs.List.Sorted.{IsSorted, IsPermutation, IsSearchInRange, IsBinarySearchResult}
use Rattle.std.specs.Result.{result_ok}
use Rattle.std.proofs.lemmas.Bool.{false≢true}
use Rattle.std.proofs.lemmas.Cmp.{tied_itself}
use Rattle.std.proofs.lemmas.Bool.Decides.{nat_tests}
use Rattle.std.proofs.lemmas.List.Sorted.{IsPermutation-sym}
use Rattle.std.proofs.lemmas.Map.Keys.{sorted_from_all_adjacent, Less-from_sorted, IsDistinct-from_apart, IsDistinct-IsPermutation, apart_from_distinct}
use Rattle.fed_dest.specs.declared.list.ListFault.TheVariants.{Doubled}
use Rattle.fed_dest.specs.List.{has_doubled, list_fault, place_of}
use Rattle.fed_dest.specs.ListParts.{AreInOrder}
use Rattle.fed_dest.proofs.Halving.{less_tested, equal_tested, found_first, halved}

-- ---- names that stand twice

neither : (a b : Bool) → (a || b) ≡ false → (a ≡ false) × (b ≡ false)
neither false b h = (refl, h)
neither true b h = absurd (false≢true (sym h))

true_if_not : (b : Bool) → (b ≡ false → ⊥) → b ≡ true
true_if_not true h = refl
true_if_not false h = absurd (h refl)

all_others : (name : List ℕ) (names : List (List ℕ)) → list_any (bytes_eq name) names ≡ false → AllByRecursion (λ y. bytes_eq name y ≡ false) names
all_others name [] h = tt
all_others name (x ∷ names) h = let both = neither (bytes_eq name x) (list_any (bytes_eq name) names) h in (both.0, all_others name names both.1)

none_like : (name : List ℕ) (names : List (List ℕ)) → AllByRecursion (λ y. bytes_eq name y ≡ false) names → list_any (bytes_eq name) names ≡ false
none_like name [] h = refl
none_like name (x ∷ names) h = ap (λ b. b || list_any (bytes_eq name) names) h.0 ∙ none_like name names h.1

are_distinct : (names : List (List ℕ)) → has_doubled names ≡ false → IsDistinct bytes_eq names
unfolding IsDistinct
are_distinct [] h = tt
are_distinct (name ∷ names) h = let both = neither (list_any (bytes_eq name) names) (has_doubled names) h in (all_others name names both.0, are_distinct names both.1)

none_doubled : (names : List (List ℕ)) → IsDistinct bytes_eq names → has_doubled names ≡ false
unfolding IsDistinct
none_doubled [] h = refl
none_doubled (name ∷ names) h = ap (λ b. b || has_doubled names) (none_like name names h.0) ∙ none_doubled names h.1

-- ---- names in order

pub rising_are_distinct : (names sorted : List (List ℕ)) → IsPermutation names sorted → AreInOrder sorted → has_doubled names ≡ false
rising_are_distinct names sorted moved rise =
    let apart : IsDistinct bytes_eq sorted = IsDistinct-from_apart bytes_eq sorted (λ i j d before within. less_tested (slice_index_or sorted i d) (slice_index_or sorted j d) (Less-from_sorted (slice_cmp nat_cmp) sorted i j d rise before within)) in
    none_doubled names (IsDistinct-IsPermutation bytes_eq nat_list_eq_equiv.symm sorted names (IsPermutation-sym names sorted moved) apart)

tie : (o p : Ordering) → p ≡ ordering_reverse o → is_lt o ≡ false → is_lt p ≡ false → o ≡ Equal
tie Less p back first second = absurd (false≢true (sym first))
tie Equal p back first second = refl
tie Greater p back first second = absurd (false≢true (sym second ∙ ap is_lt back))

pub level_are_doubled : (names sorted : List (List ℕ)) (k : ℕ) → IsPermutation names sorted → IsSorted (slice_cmp nat_cmp) sorted → k + 1 < length sorted
    → ((d : List ℕ) → false ≡ is_lt (slice_cmp nat_cmp (slice_index_or sorted k d) (slice_index_or sorted (k + 1) d))) → has_doubled names ≡ true
level_are_doubled names sorted k moved up within level = true_if_not (has_doubled names) (λ single.
    let a = slice_index_or sorted k [] in
    let b = slice_index_or sorted (k + 1) [] in
    let apart : IsDistinct bytes_eq sorted = IsDistinct-IsPermutation bytes_eq nat_list_eq_equiv.symm names sorted moved (are_distinct names single) in
    let other : bytes_eq a b ≡ false = apart_from_distinct bytes_eq sorted k (k + 1) [] apart (omega arith) within in
    let same : bytes_eq a b ≡ true = equal_tested a b (tie (slice_cmp nat_cmp a b) (slice_cmp nat_cmp b a) (nat_list_cmp_total.antisymm b a) (sym (level [])) (up k [] (omega arith) within)) in
    false≢true (sym other ∙ same))

less_if : (o : Ordering) → true ≡ is_lt o → o ≡ Less
less_if Less h = refl
less_if Equal h = absurd (false≢true (sym h))
less_if Greater h = absurd (false≢true (sym h))

pub rise_if_adjacent : (sorted : List (List ℕ)) → AllAdjacentBelow (λ x y. true ≡ is_lt (slice_cmp nat_cmp x y)) sorted (length sorted) → AreInOrder sorted
rise_if_adjacent sorted each = sorted_from_all_adjacent nat_list_cmp_total sorted [] (λ k within. less_if (slice_cmp nat_cmp (slice_index_or sorted k []) (slice_index_or sorted (k + 1) [])) (each k [] within))

-- ---- what is told of names

pub doubled_fault : (names : List (List ℕ)) → 1 ≤ length names → length names ≤ 64 → has_doubled names ≡ true → list_fault names ≡ Some Doubled
doubled_fault names least most h = grind (arith, nat_tests)

pub no_fault : (names : List (List ℕ)) → 1 ≤ length names → length names ≤ 64 → has_doubled names ≡ false → list_fault names ≡ None
no_fault names least most h = grind (arith, nat_tests)

-- ---- where a name stands

pub map-same : (names : List (List ℕ)) → map (λ x. x) names ≡ names
map-same [] = refl
map-same (x ∷ names) = ap (λ xs. x ∷ xs) (map-same names)

pub halved_names : (names seen : List (List ℕ)) (name : List ℕ) (r : Result ℕ ℕ) → seen ≡ names → AreInOrder names → IsSearchInRange r (length seen)
    → IsBinarySearchResult (λ other. slice_cmp nat_cmp other name) seen r → result_ok r ≡ place_of names name
halved_names names seen name r same rise within at =
    let P : List (List ℕ) → Type 0 = λ xs. IsSearchInRange r (length xs) in
    let Q : List (List ℕ) → Type 0 = λ xs. IsBinarySearchResult (λ other. slice_cmp nat_cmp other name) xs r in
    halved (λ x. x) names (subst AreInOrder (sym (map-same names)) rise) name r (subst P same within) (subst Q same at)

pub stands_at : (names : List (List ℕ)) (name : List ℕ) (place : ℕ) (d : List ℕ) → AreInOrder names → place < length names → slice_index_or names place d ≡ name → place_of names name ≡ Some place
stands_at names name place d rise within is =
    let equal : slice_cmp nat_cmp (slice_index_or names place d) name ≡ Equal = ap (λ n. slice_cmp nat_cmp n name) is ∙ tied_itself nat_list_cmp_total name in
    found_first (λ x. x) names (subst AreInOrder (sym (map-same names)) rise) name place d within equal
