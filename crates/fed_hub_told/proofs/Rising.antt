-- Numbers of things that rise.
use Rattle.std.proofs.Common.{arith, ◌≡◌, ℕ, ◌+◌, ◌<◌, true, false, List, [], ◌∷◌, length, map, get_or, nat_lt, sym, ◌∙◌}
use Rattle.std.specs.List.{AllAdjacentBelow}
use Rattle.std.specs.List.Sorted.{IsStrictlyIncreasing}
use Rattle.std.proofs.lemmas.Bool.{ltb-true, lt-ltb, false≢true}
use Rattle.std.proofs.lemmas.List.{length-map, get_or-map}

less_at : (a b c d : ℕ) → a ≡ c → b ≡ d → c < d → a < b
less_at a b c d left right less = omega arith

below : (k n m : ℕ) → m ≡ n → k + 1 < n → k + 1 < m
below k n m same within = omega arith

before : (k n : ℕ) → k + 1 < n → k < n
before k n within = omega arith

none_within : (k : ℕ) → k + 1 < 0 → ⊥
none_within k within = omega arith

module _ {T : Type 0} (number : T → ℕ) where
  -- where each was found to be below the next
  pub rises : (told : List T) → AllAdjacentBelow (λ x y. true ≡ nat_lt (number x) (number y)) told (length told) → IsStrictlyIncreasing (map number told)
  rises [] all = λ k within. absurd (none_within k within)
  rises (t ∷ ts) all = λ k within.
      let here : k + 1 < length (t ∷ ts) = below k _ _ (sym (length-map (t ∷ ts) number)) within in
      less_at _ _ _ _ (get_or-map number (t ∷ ts) k t 0 (before k _ here)) (get_or-map number (t ∷ ts) (k + 1) t 0 here) (ltb-true _ _ (sym (all k t here)))

  -- where one was found not to be
  pub never_rises : (told : List T) → (k : ℕ) × (k + 1 < length told) × ((d : T) → false ≡ nat_lt (number (get_or told k d)) (number (get_or told (k + 1) d)))
      → ¬ IsStrictlyIncreasing (map number told)
  never_rises [] found rise = none_within found.0 found.1
  never_rises (t ∷ ts) found rise =
      let k = found.0 in
      let here = found.1 in
      let less = rise k (below k _ _ (length-map (t ∷ ts) number) here) in
      false≢true (found.2 t ∙ lt-ltb _ _ (less_at _ _ _ _ (sym (get_or-map number (t ∷ ts) k t 0 (before k _ here))) (sym (get_or-map number (t ∷ ts) (k + 1) t 0 here)) less))
