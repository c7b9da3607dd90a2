-- Words on lists, whose answers are by the elements of the list alone.
use Rattle.std.proofs.Common.{◌≡◌, ◌<◌, ◌≤◌, ℕ, zero, suc, List, [], ◌∷◌, ◌++◌, append-nil, Bool, true, false, cond, ◌&&◌, ◌||◌, All, Option, Some, IfSome, refl, sym, ap, ◌∙◌, ◌⊎◌, inl, inr, arith}
use Rattle.std.proofs.lemmas.Bool.{cases_lt}
use Rattle.std.proofs.lemmas.List.Elements.{All-head, All-tail, All-nil, All-push, All-weaker, filter-append}
use Rattle.std.specs.List.{list_any, list_all, filter, filter_map, find, cons_option}
use Rattle.fed_resolve.specs.Chain.{places_below}

module _ {X : Type 0} where
  pub any-agree : (f g : X → Bool) (xs : List X) → All (λ x. f x ≡ g x) xs → list_any f xs ≡ list_any g xs
  any-agree f g [] same = refl
  any-agree f g (x ∷ xs) same = λ i. All-head (λ y. f y ≡ g y) x xs same i || any-agree f g xs (All-tail (λ y. f y ≡ g y) x xs same) i

  pub all-agree : (f g : X → Bool) (xs : List X) → All (λ x. f x ≡ g x) xs → list_all f xs ≡ list_all g xs
  all-agree f g [] same = refl
  all-agree f g (x ∷ xs) same = λ i. All-head (λ y. f y ≡ g y) x xs same i && all-agree f g xs (All-tail (λ y. f y ≡ g y) x xs same) i

  pub filter-agree : (f g : X → Bool) (xs : List X) → All (λ x. f x ≡ g x) xs → filter f xs ≡ filter g xs
  filter-agree f g [] same = refl
  filter-agree f g (x ∷ xs) same =
      let rest = filter-agree f g xs (All-tail (λ y. f y ≡ g y) x xs same) in
      λ i. cond (All-head (λ y. f y ≡ g y) x xs same i) (x ∷ rest i) (rest i)

  pub find-agree : (f g : X → Bool) (xs : List X) → All (λ x. f x ≡ g x) xs → find f xs ≡ find g xs
  find-agree f g [] same = refl
  find-agree f g (x ∷ xs) same = λ i. cond (All-head (λ y. f y ≡ g y) x xs same i) (Some x) (find-agree f g xs (All-tail (λ y. f y ≡ g y) x xs same) i)

  pub filter_map-agree : {Y : Type 0} (f g : X → Option Y) (xs : List X) → All (λ x. f x ≡ g x) xs → filter_map f xs ≡ filter_map g xs
  filter_map-agree f g [] same = refl
  filter_map-agree f g (x ∷ xs) same = λ i. cons_option (All-head (λ y. f y ≡ g y) x xs same i) (filter_map-agree f g xs (All-tail (λ y. f y ≡ g y) x xs same) i)

  -- what holds of each element holds of the one that is found
  pub find-passes : (P : X → Type 0) (f : X → Bool) (xs : List X) → All P xs → IfSome (find f xs) P
  find-passes P f [] all = tt
  find-passes P f (x ∷ xs) all = by (f x) (find-passes P f xs (All-tail P x xs all))
    where
      by : (b : Bool) → IfSome (find f xs) P → IfSome (cond b (Some x) (find f xs)) P
      by true rest = All-head P x xs all
      by false rest = rest

-- ---- places

pub places_within : (n : ℕ) → All (λ p. p < n) (places_below n)
places_within zero = All-nil (λ p. p < 0)
places_within (suc n) =
    All-push (λ p. p < suc n) (places_below n) n (All-weaker (λ p. p < n) (λ p. p < suc n) (λ p h. omega arith) (places_below n) (places_within n)) (omega arith)

-- a test that agrees with another one at the places below a bound, and that no place from there on passes
module _ (n : ℕ) (test other : ℕ → Bool) (same : (p : ℕ) → p < n → test p ≡ other p) (none : (p : ℕ) → n ≤ p → test p ≡ false) where
  passing_below : (m : ℕ) → m ≤ n → filter test (places_below m) ≡ filter other (places_below m)
  passing_below m h = filter-agree test other (places_below m) (All-weaker (λ p. p < m) (λ p. test p ≡ other p) (λ p below. same p (omega arith)) (places_below m) (places_within m))

  pub passing_upto : (m : ℕ) → n ≤ m → filter test (places_below m) ≡ filter other (places_below n)
  passing_upto zero h = let e : n ≡ 0 = omega arith in sym (ap (λ k. filter other (places_below k)) e)
  passing_upto (suc m) h = by (cases_lt m n) (λ g. passing_upto m g)
    where
      by : (m < n) ⊎ (n ≤ m) → (n ≤ m → filter test (places_below m) ≡ filter other (places_below n)) → filter test (places_below (suc m)) ≡ filter other (places_below n)
      by (inl below) rest = let e : suc m ≡ n = omega arith in passing_below (suc m) (omega arith) ∙ ap (λ k. filter other (places_below k)) e
      by (inr past) rest =
          filter-append test (places_below m) (m ∷ []) ∙ ap (λ b. filter test (places_below m) ++ cond b (m ∷ []) []) (none m past)
          ∙ append-nil (filter test (places_below m)) ∙ rest past
