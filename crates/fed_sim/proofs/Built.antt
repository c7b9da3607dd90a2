-- Lists that are built one by one.
use Rattle.std.proofs.Common.{◌≡◌, ℕ, zero, suc, ◌+◌, ◌<◌, ◌++◌, ◌∷◌, [], List, length, map, take, get_or, Some, refl, sym, ap, ◌∙◌, subst}
use Rattle.std.specs.List.{slice_get}
use Rattle.std.proofs.lemmas.Option.{same_Some, none-some, slice_get-get_or, slice_get_within}
use Rattle.std.proofs.lemmas.List.{map-append, take_more}

-- one more is what it has to be
pub built : {A B : Type 0} (f : A → B) (items new : List A) (xs : List B) (i : ℕ) (x : A) → map f items ≡ take i xs → new ≡ items ++ x ∷ [] → i < length xs → f x ≡ get_or xs i (f x)
    → map f new ≡ take (i + 1) xs
built f items new xs i x so_far more within is =
    ap (map f) more ∙ map-append f items (x ∷ []) ∙ (λ j. so_far j ++ is j ∷ []) ∙ sym (take_more xs i (f x) within)

-- the same of what is pushed as it is
pub pushed : {A : Type 0} (items new xs : List A) (i : ℕ) (x : A) → items ≡ take i xs → new ≡ items ++ x ∷ [] → i < length xs → x ≡ get_or xs i x → new ≡ take (i + 1) xs
pushed items new xs i x so_far more within is = more ∙ (λ j. so_far j ++ is j ∷ []) ∙ sym (take_more xs i x within)

-- what holds at each place holds there still
pub each_pushed : {A : Type 0} (P : ℕ → A → Type 0) (items new : List A) (x : A) → new ≡ items ++ x ∷ [] → ((k : ℕ) (y : A) → slice_get items k ≡ Some y → P k y) → P (length items) x
    → (k : ℕ) (y : A) → slice_get new k ≡ Some y → P k y
each_pushed P items new x more so_far this k y here = by 0 items P so_far this k y (ap (λ l. slice_get l k) (sym more) ∙ here)
  where
    by : {A : Type 0} (n : ℕ) (xs : List A) (Q : ℕ → A → Type 0) {x : A} → ((k : ℕ) (y : A) → slice_get xs k ≡ Some y → Q k y) → Q (length xs) x
        → (k : ℕ) (y : A) → slice_get (xs ++ x ∷ []) k ≡ Some y → Q k y
    by n [] Q so_far this zero y here = subst (Q 0) (same_Some _ y here) this
    by n [] Q so_far this (suc k) y here = absurd (none-some y here)
    by n (z ∷ zs) Q so_far this zero y here = so_far 0 y here
    by n (z ∷ zs) Q so_far this (suc k) y here = by n zs (λ j. Q (suc j)) (λ j w at. so_far (suc j) w at) this k y here

pub slice_there : {A : Type 0} (xs : List A) (k : ℕ) (d y : A) → d ≡ get_or xs k d → slice_get xs k ≡ Some y → d ≡ y
slice_there xs k d y is here = is ∙ same_Some _ y (sym (slice_get-get_or xs k d (slice_get_within xs k y here)) ∙ here)

-- what stands in a list that another one was mapped to
pub mapped : {A B : Type 0} (f : A → B) (xs : List A) (k : ℕ) (y : B) → slice_get (map f xs) k ≡ Some y → (x : A) × (slice_get xs k ≡ Some x) × (f x ≡ y)
mapped f [] k y here = absurd (none-some y here)
mapped f (x ∷ xs) zero y here = (x, refl, same_Some (f x) y here)
mapped f (x ∷ xs) (suc k) y here = mapped f xs k y here
