-- Where halving finds a text among texts that rise strictly: at the first place where it stands.
use Rattle.std.proofs.Common.{arith, ◌≡◌, ℕ, ◌+◌, ◌<◌, ◌≤◌, ◌⊎◌, inl, inr, if◌then◌else◌, nat_lt, Bool, List, [], ◌∷◌, map, length, slice_index_or, false, true, Some, None, Ok, Err, Result, Less, Equal, Greater, nat_cmp, bytes_eq, refl, sym, ap, ◌∙◌}
use Rattle.std.specs.Cmp.Lexicographic.{slice_cmp, nat_list_cmp_total}
use Rattle.std.specs.Ordering.{is_lt, is_eq, ordering_reverse}
use Rattle.std.specs.Result.{result_ok}
use Rattle.std.specs.List.{position, position_or_len}
use Rattle.std.specs.List.Sorted.{IsStrictlySortedBy, IsSortedBy, IsSearchInRange, IsBinarySearchResult, IsPartitionPoint}
use Rattle.std.proofs.lemmas.Bool.{cases_lt}
use Rattle.std.proofs.lemmas.Bool.Decides.{nat_tests}
use Rattle.std.proofs.lemmas.List.{get_or-map, length-map}
use Rattle.std.proofs.lemmas.List.Sorted.{searchable_from_sorted}
use Rattle.std.proofs.lemmas.List.Sums.{position_or_len_is}
use Rattle.std.proofs.lemmas.Map.Keys.{Less-from_sorted}
use Rattle.std.proofs.lemmas.Map.Text.{is_eq-slice_cmp}
use Rattle.std.proofs.lemmas.Slice.Eq.{bytes_eq-Decides}

pub equal_tested : (a b : List ℕ) → slice_cmp nat_cmp a b ≡ Equal → bytes_eq a b ≡ true
equal_tested a b h = sym (is_eq-slice_cmp a b) ∙ ap is_eq h

pub less_tested : (a b : List ℕ) → slice_cmp nat_cmp a b ≡ Less → bytes_eq a b ≡ false
less_tested a b h = sym (is_eq-slice_cmp a b) ∙ ap is_eq h

greater_tested : (a b : List ℕ) → slice_cmp nat_cmp a b ≡ Greater → bytes_eq a b ≡ false
greater_tested a b h = sym (is_eq-slice_cmp a b) ∙ ap is_eq h

equal_is : (a b : List ℕ) → slice_cmp nat_cmp a b ≡ Equal → a ≡ b
equal_is a b h = (bytes_eq-Decides a b).0 (equal_tested a b h)

at_place : (place i n : ℕ) → place ≡ i → i < n → (if nat_lt place n then Some place else None) ≡ Some i
at_place place i n same within = grind (arith, nat_tests)

past_all : (place n : ℕ) → place ≡ n → (if nat_lt place n then Some place else None) ≡ None
past_all place n same = grind (arith, nat_tests)

nowhere : {X : Type 0} (test : X → Bool) (xs : List X) → ((k : ℕ) (d : X) → k < length xs → test (slice_index_or xs k d) ≡ false) → position test xs ≡ None
nowhere test [] fails = refl
nowhere test (x ∷ xs) fails =
    past_all (position_or_len test (x ∷ xs)) (length (x ∷ xs)) (position_or_len_is test (x ∷ xs) (length (x ∷ xs)) x (omega arith) (λ k within. fails k x within) (λ within. absurd (omega arith)))

some_of : {X : Type 0} (xs : List X) (i : ℕ) → i < length xs → X
some_of [] i within = absurd (omega arith)
some_of (x ∷ xs) i within = x

module _ {X : Type 0} (key : X → List ℕ) (xs : List X) (rise : IsStrictlySortedBy (slice_cmp nat_cmp) (map key xs)) where
  -- an earlier key is less
  earlier : (i j : ℕ) (d : X) → i < j → j < length xs → slice_cmp nat_cmp (key (slice_index_or xs i d)) (key (slice_index_or xs j d)) ≡ Less
  earlier i j d before within =
      let inside : j < length (map key xs) = omega (arith, length-map xs key) in
      let less = Less-from_sorted (slice_cmp nat_cmp) (map key xs) i j (key d) rise before inside in
      let left : slice_index_or (map key xs) i (key d) ≡ key (slice_index_or xs i d) = get_or-map key xs i d (key d) (omega arith) in
      let right : slice_index_or (map key xs) j (key d) ≡ key (slice_index_or xs j d) = get_or-map key xs j d (key d) within in
      rw left at (rw right at less)

  -- what a search asks of them
  do_not_fall : IsSortedBy (λ a b. is_lt (slice_cmp nat_cmp (key a) (key b))) xs
  do_not_fall k d low within =
      let a = key (slice_index_or xs k d) in
      let b = key (slice_index_or xs (k + 1) d) in
      ap is_lt (nat_list_cmp_total.antisymm b a ∙ ap ordering_reverse (earlier k (k + 1) d (omega arith) within))

  pub found_first : (name : List ℕ) (i : ℕ) (d : X) → i < length xs → slice_cmp nat_cmp (key (slice_index_or xs i d)) name ≡ Equal → position (λ x. bytes_eq (key x) name) xs ≡ Some i
  found_first name i d within equal =
      let at = key (slice_index_or xs i d) in
      let same : at ≡ name = equal_is at name equal in
      let none_before : (k : ℕ) → k < i → bytes_eq (key (slice_index_or xs k d)) name ≡ false =
      λ k before. less_tested (key (slice_index_or xs k d)) name (ap (slice_cmp nat_cmp (key (slice_index_or xs k d))) (sym same) ∙ earlier k i d before within) in
      let place : position_or_len (λ x. bytes_eq (key x) name) xs ≡ i = position_or_len_is (λ x. bytes_eq (key x) name) xs i d (omega arith) none_before (λ _. equal_tested at name equal) in
      at_place (position_or_len (λ x. bytes_eq (key x) name) xs) i (length xs) place within

  pub found_nowhere : (name : List ℕ) (i : ℕ) → IsPartitionPoint (λ x. slice_cmp nat_cmp (key x) name ≡ Less) (λ x. slice_cmp nat_cmp (key x) name ≡ Greater) xs i → position (λ x. bytes_eq (key x) name) xs ≡ None
  found_nowhere name i sides = nowhere (λ x. bytes_eq (key x) name) xs (λ k d within. apart k d within)
    where
      apart : (k : ℕ) (d : X) → k < length xs → bytes_eq (key (slice_index_or xs k d)) name ≡ false
      apart k d within = side (cases_lt k i)
        where
          side : (k < i) ⊎ (i ≤ k) → bytes_eq (key (slice_index_or xs k d)) name ≡ false
          side (inl before) = less_tested (key (slice_index_or xs k d)) name (sides.0 k d (omega arith) before)
          side (inr after) = greater_tested (key (slice_index_or xs k d)) name (sides.1 k d after within)

  -- what halving answers is the first place at which the text stands, or that it stands nowhere
  pub halved : (name : List ℕ) (r : Result ℕ ℕ) → IsSearchInRange r (length xs) → IsBinarySearchResult (λ x. slice_cmp nat_cmp (key x) name) xs r → result_ok r ≡ position (λ x. bytes_eq (key x) name) xs
  halved name (Ok i) within at = sym (found_first name i (some_of xs i within) within (at (some_of xs i within)))
  halved name (Err i) within around = sym (found_nowhere name i (around (searchable_from_sorted nat_list_cmp_total key xs name do_not_fall)))
