-- What holds of each element, as far as a loop has come.
use Rattle.std.proofs.Common.{◌≡◌, ℕ, ◌+◌, ◌<◌, ◌≤◌, List, [], ◌∷◌, ◌++◌, length, get_or, take, sym, ap, ◌∙◌, subst}
use Rattle.std.specs.Prelude.{All}
use Rattle.std.proofs.lemmas.List.{take_more, take_all}
use Rattle.std.proofs.lemmas.List.Elements.{All-more, All-get_or}

-- one element more
pub one_more : {X : Type 0} (xs : List X) (i : ℕ) (x : X) → i < length xs → x ≡ get_or xs i x → take (i + 1) xs ≡ take i xs ++ x ∷ []
one_more xs i x within is = take_more xs i x within ∙ ap (λ y. take i xs ++ y ∷ []) (sym is)

module _ {X : Type 0} (P : X → Type 0) (xs : List X) (i : ℕ) where
  pub each_more : (x : X) → i < length xs → x ≡ get_or xs i x → All P (take i xs) → P x → All P (take (i + 1) xs)
  each_more x within is so_far here = All-more P xs i x within so_far (subst P is here)

  -- one of which it does not hold
  pub not_each : (x : X) → i < length xs → x ≡ get_or xs i x → ¬ P x → ¬ All P xs
  not_each x within is never all = never (subst P (sym is) (All-get_or P xs i x within all))

  pub each_so_far : length xs ≤ i → All P (take i xs) → All P xs
  each_so_far done all = subst (All P) (take_all i xs done) all
