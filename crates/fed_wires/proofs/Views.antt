-- What holds of each view, by its place, after one view changes and after one joins at the end.
use Rattle.std.proofs.Common.{◌≡◌, ◌≢◌, ℕ, zero, suc, ◌⊎◌, inl, inr, List, [], ◌∷◌, ◌++◌, length, set, sym, refl, ap, subst, ⊎_elim}
use mathlib.Core.Option.{some, some-ne-none, some-injective}
use lib.ListN.{get_elem?}
use Rattle.atomic_table.proofs.Lists.{at_set}

module _ {A : Type 0} where
  abbrev pub Each : (ℕ → A → Type 0) → List A → Type 0
  Each F views = (place : ℕ) (v : A) → get_elem? views place ≡ some v → F place v

  -- a fact of one place and its view, along two equations
  moved : (F : ℕ → A → Type 0) (i j : ℕ) (v u : A) → j ≡ i → v ≡ u → F i v → F j u
  moved F i j v u places views fact = subst (λ (x : ℕ × A). F x.0 x.1) (λ k. (sym places k, views k)) fact

  pub each_set : (F : ℕ → A → Type 0) (views : List A) (place : ℕ) (w : A) → F place w → ((j : ℕ) (u : A) → j ≢ place → get_elem? views j ≡ some u → F j u) → Each F (set views place w)
  each_set F views place w mine others j u at = ⊎_elim (λ here. moved F place j w u here.0 here.1 mine) (λ apart. others j u apart.0 apart.1) (at_set views place j w u at)

  -- an element of a longer list is one of the list, or the last
  pub at_end : (views : List A) (w u : A) (j : ℕ) → get_elem? (views ++ w ∷ []) j ≡ some u → (get_elem? views j ≡ some u) ⊎ ((j ≡ length views) × (w ≡ u))
  at_end [] w u zero at = inr (refl, some-injective w u at)
  at_end [] w u (suc j) at = absurd (some-ne-none u (sym at))
  at_end (v ∷ vs) w u zero at = inl at
  at_end (v ∷ vs) w u (suc j) at = ⊎_elim (λ in_front. inl in_front) (λ last. inr (ap suc last.0, last.1)) (at_end vs w u j at)

  pub each_more : (F : ℕ → A → Type 0) (views : List A) (w : A) → Each F views → F (length views) w → Each F (views ++ w ∷ [])
  each_more F views w old new j u at = ⊎_elim (λ in_front. old j u in_front) (λ last. moved F (length views) j w u last.0 last.1 new) (at_end views w u j at)

  pub each_one : (F : ℕ → A → Type 0) (w : A) → F 0 w → Each F (w ∷ [])
  each_one F w new = each_more F [] w (λ j u at. absurd (some-ne-none u (sym at))) new
