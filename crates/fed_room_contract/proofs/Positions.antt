-- Where the first element of a list stands that passes a test.
use Rattle.std.proofs.Common.{rules, ◌≡◌, ℕ, suc, ◌+◌, ◌<◌, ◌≤◌, List, [], ◌∷◌, ◌++◌, length, Bool, true, false, ◌||◌, not, cond, None, Some, is_some, IfSome, refl, sym, ap, ◌∙◌, nat_lt, ltb-false, one-add, arith, length-append, eqb}
use Rattle.std.specs.List.{position, position_or_len, slice_get, find, list_any}
use Rattle.std.proofs.lemmas.List.Folds.{find_at, position_or_len_push}
use Rattle.std.proofs.lemmas.Bool.Decides.{nat_tests}
use Rattle.std.proofs.lemmas.Option.{slice_get_past}
use Rattle.fed_room_contract.proofs.Filled.{or}

some_by : (b : Bool) (n i : ℕ) → cond b (Some n) None ≡ Some i → (i ≡ n) × (b ≡ true)
some_by true n i e = (cc, refl)
some_by false n i e = absurd (cc)

none_by : (b : Bool) (n : ℕ) → cond b (Some n) None ≡ None → b ≡ false
none_by true n e = absurd (cc)
none_by false n e = refl

shown : (m n : ℕ) (b : Bool) → n ≤ m → cond (nat_lt (cond (eqb n m) (m + cond b 0 1) n) (m + 1)) (Some (cond (eqb n m) (m + cond b 0 1) n)) None ≡ or (cond (nat_lt n m) (Some n) None) (cond b (Some m) None)
shown m n b h = grind (arith, nat_tests)

next_place : (b : Bool) (m n : ℕ) → nat_lt (1 + n) (1 + m) ≡ nat_lt n m
next_place b m n = grind (arith, nat_tests)

-- the first place is one of the list exactly where some element passes
below_any : {X : Type 0} (p : X → Bool) (xs : List X) → nat_lt (position_or_len p xs) (length xs) ≡ list_any p xs
below_any p [] = refl
below_any p (x ∷ xs) =
    elim (p x) as (λ b. nat_lt (cond (not b) (1 + position_or_len p xs) 0) (length (x ∷ xs)) ≡ (b || list_any p xs))
    [ true ↦ above_none (length xs) | false ↦ ap (nat_lt (1 + position_or_len p xs)) (sym (one-add (length xs))) ∙ next_place true (length xs) (position_or_len p xs) ∙ below_any p xs ]
  where
    above_none : (n : ℕ) → nat_lt 0 (suc n) ≡ true
    above_none n = grind (arith, nat_tests)

at_most : {X : Type 0} (p : X → Bool) (xs : List X) → position_or_len p xs ≤ length xs
at_most p [] = omega arith
at_most p (x ∷ xs) =
    let rest = at_most p xs in
    elim (p x) as (λ b. cond (not b) (1 + position_or_len p xs) 0 ≤ length (x ∷ xs)) [ true ↦ omega arith | false ↦ omega arith ]

is_some-chosen : (b : Bool) (n : ℕ) → is_some (cond b (Some n) None) ≡ b
is_some-chosen true n = refl
is_some-chosen false n = refl

chosen_below : (b : Bool) (n m : ℕ) → (b ≡ true → n < m) → IfSome (cond b (Some n) None) (λ i. i < m)
chosen_below true n m h = h refl
chosen_below false n m h = tt

module _ {X : Type 0} (p : X → Bool) (xs : List X) where
  pub find-position : (i : ℕ) → position p xs ≡ Some i → find p xs ≡ slice_get xs i
  find-position i e = find_at p xs ∙ ap (slice_get xs) (sym (some_by _ _ i e).0)

  pub find-no_position : position p xs ≡ None → find p xs ≡ None
  find-no_position e = find_at p xs ∙ slice_get_past xs (position_or_len p xs) (ltb-false (position_or_len p xs) (length xs) (none_by _ _ e))

  pub is_some-position : is_some (position p xs) ≡ list_any p xs
  is_some-position = is_some-chosen _ _ ∙ below_any p xs

  pub no_position : list_any p xs ≡ false → position p xs ≡ None
  no_position h = ap (λ b. cond b (Some (position_or_len p xs)) None) (below_any p xs ∙ h)

  pub position_below : IfSome (position p xs) (λ i. i < length xs)
  position_below = chosen_below _ _ _ (λ t. search (rules, nat_tests))

  pub position-push : (y : X) → position p (xs ++ y ∷ []) ≡ or (position p xs) (cond (p y) (Some (length xs)) None)
  position-push y = (λ i. cond (nat_lt (position_or_len_push p xs y i) (length-append xs (y ∷ []) i)) (Some (position_or_len_push p xs y i)) None) ∙ shown (length xs) (position_or_len p xs) (p y) (at_most p xs)

pub is_some-find : {X : Type 0} (p : X → Bool) (xs : List X) → is_some (find p xs) ≡ list_any p xs
is_some-find p [] = refl
is_some-find p (x ∷ xs) = elim (p x) as (λ b. is_some (cond b (Some x) (find p xs)) ≡ (b || list_any p xs)) [ true ↦ refl | false ↦ is_some-find p xs ]
