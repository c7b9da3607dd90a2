-- Marks tell the numbers that they were made for, and lists of numbers can be put one behind another.
use Rattle.std.proofs.Common.{◌≡◌, ◌≢◌, ℕ, ◌+◌, ◌-◌, ◌<◌, nat_lt, ◌==◌, List, [], ◌∷◌, ◌++◌, true, false, Some, ◌⊎◌, inl, inr, refl, arith, ne_eqb}
use Rattle.std.proofs.lemmas.Bool.{cases_Bool, eqb-true, ltb-true}
use Rattle.fed_replies.specs.Marks.{HasLarge, large_for, mark_for, number_at, numbers_behind}

-- ---- a mark and its number

pub told : (number : ℕ) → number_at (mark_for (Some number)) (large_for (Some number)) ≡ Some number
told number = by (cases_Bool (nat_lt number 254))
  where
    by : (nat_lt number 254 ≡ true) ⊎ (nat_lt number 254 ≡ false) → number_at (mark_for (Some number)) (large_for (Some number)) ≡ Some number
    by (inl t) =
        let below : number < 254 = ltb-true number 254 t in
        let some : number + 1 ≢ 0 = λ e. omega arith in
        let small : number + 1 ≢ 255 = λ e. omega arith in
        let back : number + 1 - 1 ≡ number = omega arith in
        rw (t, ne_eqb (number + 1) 0 some, ne_eqb (number + 1) 255 small, back) refl
    by (inr f) = rw f refl

pub none_left : (number : ℕ) → numbers_behind (mark_for (Some number)) (large_for (Some number)) ≡ []
none_left number = by (cases_Bool (nat_lt number 254))
  where
    by : (nat_lt number 254 ≡ true) ⊎ (nat_lt number 254 ≡ false) → numbers_behind (mark_for (Some number)) (large_for (Some number)) ≡ []
    by (inl t) =
        let below : number < 254 = ltb-true number 254 t in
        let small : number + 1 ≢ 255 = λ e. omega arith in
        rw (t, ne_eqb (number + 1) 255 small) refl
    by (inr f) = rw f refl

pub has_own : (number : ℕ) → HasLarge (mark_for (Some number)) (large_for (Some number))
has_own number = by (cases_Bool (nat_lt number 254))
  where
    by : (nat_lt number 254 ≡ true) ⊎ (nat_lt number 254 ≡ false) → HasLarge (mark_for (Some number)) (large_for (Some number))
    by (inl t) =
        let below : number < 254 = ltb-true number 254 t in
        rw t (λ (e : number + 1 ≡ 255). omega arith)
    by (inr f) = rw f (λ e. omega arith)

-- ---- more numbers behind

pub number-append : (mark : ℕ) (left more : List ℕ) → HasLarge mark left → number_at mark (left ++ more) ≡ number_at mark left
number-append mark left more has = by (cases_Bool (mark == 255)) left has
  where
    by : (mark == 255 ≡ true) ⊎ (mark == 255 ≡ false) → (l : List ℕ) → HasLarge mark l → number_at mark (l ++ more) ≡ number_at mark l
    by (inl t) [] h = let none : 0 < 0 = h (eqb-true mark 255 t) in absurd (omega arith)
    by (inl t) (n ∷ l) h = rw t refl
    by (inr f) l h = rw f refl

pub behind-append : (mark : ℕ) (left more : List ℕ) → HasLarge mark left → numbers_behind mark (left ++ more) ≡ numbers_behind mark left ++ more
behind-append mark left more has = by (cases_Bool (mark == 255)) left has
  where
    by : (mark == 255 ≡ true) ⊎ (mark == 255 ≡ false) → (l : List ℕ) → HasLarge mark l → numbers_behind mark (l ++ more) ≡ numbers_behind mark l ++ more
    by (inl t) [] h = let none : 0 < 0 = h (eqb-true mark 255 t) in absurd (omega arith)
    by (inl t) (n ∷ l) h = rw t refl
    by (inr f) l h = rw f refl

pub large-append : (mark : ℕ) (left more : List ℕ) → HasLarge mark left → HasLarge mark (left ++ more)
large-append mark [] more h = λ e. let none : 0 < 0 = h e in absurd (omega arith)
large-append mark (n ∷ left) more h = λ e. omega arith
