-- What is at the places of a list of which one changes.
use Rattle.std.proofs.Common.{arith, ◌≡◌, ◌≢◌, ◌⊎◌, inl, inr, ℕ, zero, suc, ◌<◌, List, [], ◌∷◌, length, set, Some, refl, sym, ap, ◌∙◌, subst, length-set}
use Rattle.std.specs.List.{slice_get}
use Rattle.std.proofs.lemmas.Option.{same_Some, slice_get_within}
use Rattle.std.proofs.lemmas.Bool.{cases_eq}

module _ {X : Type 0} where
  pub set_here : (xs : List X) (i : ℕ) (y : X) → i < length xs → slice_get (set xs i y) i ≡ Some y
  set_here [] i y h = absurd (omega arith)
  set_here (x ∷ xs) zero y h = refl
  set_here (x ∷ xs) (suc i) y h = set_here xs i y (omega arith)

  pub set_there : (xs : List X) (i d : ℕ) (y : X) → d ≢ i → slice_get (set xs i y) d ≡ slice_get xs d
  set_there [] i d y ne = refl
  set_there (x ∷ xs) zero zero y ne = absurd (ne refl)
  set_there (x ∷ xs) zero (suc d) y ne = refl
  set_there (x ∷ xs) (suc i) zero y ne = refl
  set_there (x ∷ xs) (suc i) (suc d) y ne = set_there xs i d y (λ e. ne (ap suc e))

  -- what holds at each place holds there still where it holds of what is new
  pub set_all : (P : ℕ → X → Type 0) (xs : List X) (i : ℕ) (y : X) → P i y → ((d : ℕ) (x : X) → d ≢ i → slice_get xs d ≡ Some x → P d x)
      → (d : ℕ) (x : X) → slice_get (set xs i y) d ≡ Some x → P d x
  set_all P xs i y this others d x here = by (cases_eq d i)
    where
      by : (d ≡ i) ⊎ (d ≢ i) → P d x
      by (inl same) =
          let within : i < length xs = omega (arith, slice_get_within (set xs i y) d x here, length-set xs i y, same) in
          let new : y ≡ x = same_Some y x (sym (set_here xs i y within) ∙ ap (slice_get (set xs i y)) (sym same) ∙ here) in
          subst (λ k. P k x) (sym same) (subst (P i) new this)
      by (inr other) = others d x other (sym (set_there xs i d y other) ∙ here)
