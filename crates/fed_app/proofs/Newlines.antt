-- The first byte that passes a test, as a search tells it and as a place in a list.
use Rattle.std.proofs.Common.{arith, ◌≡◌, ℕ, ◌<◌, ◌≤◌, List, Bool, true, false, cond, Option, None, Some, length, nat_lt, sym, ap, ◌∙◌, ◌⊎◌, inl, inr}
use Rattle.std.proofs.lemmas.Bool.{cases_lt, false≢true}
use Rattle.std.proofs.lemmas.Bool.Decides.{nat_tests}
use Rattle.std.proofs.lemmas.List.Sums.{passes_at_first, fails_before_first}
use Rattle.std.specs.List.{position, position_or_len}
use Rattle.memchr.specs.Find.{IsFirstByte}

module _ (p : ℕ → Bool) (xs : List ℕ) where
  abbrev n : ℕ
  n = position_or_len p xs

  at_place : n < length xs → position p xs ≡ Some n
  at_place within = let h : nat_lt n (length xs) ≡ true = grind (arith, nat_tests) in ap (λ b. cond b (Some n) None) h

  past : (n < length xs → ⊥) → position p xs ≡ None
  past over = by (cases_lt n (length xs))
    where
      by : (n < length xs) ⊎ (length xs ≤ n) → position p xs ≡ None
      by (inl within) = absurd (over within)
      by (inr beyond) = let h : nat_lt n (length xs) ≡ false = grind (arith, nat_tests) in ap (λ b. cond b (Some n) None) h

  pub position_is : (r : Option ℕ) → IsFirstByte p xs r → r ≡ position p xs
  position_is None nowhere = sym (past (λ within. nowhere n (omega arith) within (passes_at_first p xs 0 within)))
  position_is (Some k) first = same (cases_lt n k) (cases_lt k n)
    where
      inside : n < k → n < length xs
      inside below = omega (arith, below, first.0.high)

      same : (n < k) ⊎ (k ≤ n) → (k < n) ⊎ (n ≤ k) → Some k ≡ position p xs
      same (inl below) other = absurd (first.0.before n (omega arith) below (passes_at_first p xs 0 (inside below)))
      same (inr over) (inl before) = absurd (false≢true (sym (fails_before_first p xs k 0 before) ∙ first.1))
      same (inr over) (inr under) =
          let equal : n ≡ k = omega (arith, over, under) in
          sym (at_place (omega (arith, equal, first.0.high)) ∙ ap Some equal)
