-- What holds of each element and its place, as far as a loop has come.
use Rattle.std.proofs.Common.{arith, ◌≡◌, ℕ, ◌+◌, ◌<◌, ◌≤◌, Bool, true, false, nat_lt, List, length, get_or, Option, Some, None, slice_get, refl, sym, ap, ◌∙◌, subst}
use Rattle.std.proofs.lemmas.Bool.{ltb-true, ltb-false}
use Rattle.std.proofs.lemmas.Option.{slice_get_read, slice_get_within}

abbrev or_given : {X : Type 0} → X → Option X → X
or_given x None = x
or_given x (Some y) = y

module _ {X : Type 0} (P : ℕ → X → Type 0) (xs : List X) where
  -- of the first elements
  pub record HoldOfFirst (count : ℕ) : Type 0 where
    pub each : (place : ℕ) (x : X) → place < count → slice_get xs place ≡ Some x → P place x

  pub of_none : HoldOfFirst 0
  of_none = record { each = λ place x less found. absurd (omega arith) }

  module _ (i : ℕ) (x : X) (within : i < length xs) (is : x ≡ get_or xs i x) where
    here : slice_get xs i ≡ Some x
    here = slice_get_read xs (length xs) i x refl within is

    pub of_one_more : HoldOfFirst i → P i x → HoldOfFirst (i + 1)
    of_one_more so_far holds = record { each = λ place y less found. by place y less found (nat_lt place i) refl }
      where
        by : (place : ℕ) (y : X) → place < i + 1 → slice_get xs place ≡ Some y → (b : Bool) → nat_lt place i ≡ b → P place y
        by place y less found true e = so_far.each place y (ltb-true place i e) found
        by place y less found false e =
            let behind = ltb-false place i e in
            let same : i ≡ place = omega arith in
            let found_here : Some x ≡ Some y = sym here ∙ ap (slice_get xs) same ∙ found in
            subst (λ n. P n y) same (subst (P i) (ap (or_given x) found_here) holds)

    -- one of which it does not hold
    pub not_of_all : ¬ P i x → ¬ ((place : ℕ) (y : X) → slice_get xs place ≡ Some y → P place y)
    not_of_all never all = never (all i x here)

  pub of_all : (i : ℕ) → length xs ≤ i → HoldOfFirst i → (place : ℕ) (x : X) → slice_get xs place ≡ Some x → P place x
  of_all i done so_far place x found =
      let within = slice_get_within xs place x found in
      so_far.each place x (omega arith) found
