-- Lists that rise strictly and have the same members are one.
use Rattle.std.proofs.Common.{arith, ◌≡◌, ℕ, zero, suc, ◌<◌, Bool, true, false, ◌==◌, ◌||◌, List, [], ◌∷◌, length, refl, sym, ap, ◌∙◌, subst, eq-eqb, get_or}
use Rattle.std.specs.List.{AllPairs}
use Rattle.std.specs.List.Sorted.{IsStrictlyIncreasing}
use Rattle.std.proofs.lemmas.List.Kept.{AllPairs-from_increasing}
use Rattle.std.proofs.lemmas.Bool.{eqb-true}
use Rattle.fed_dest.specs.ServerSet.{is_among}

-- each member is above those before it
abbrev Rises : List ℕ → Type 0
Rises [] = Unit {0}
Rises (x ∷ xs) = ((d : ℕ) → is_among xs d ≡ true → x < d) × Rises xs

above : (x : ℕ) (xs : List ℕ) → ((k e : ℕ) → k < length xs → x < get_or xs k e) → (d : ℕ) → is_among xs d ≡ true → x < d
above x [] all d e = absurd (cc)
above x (y ∷ ys) all d e = by (y == d) refl e (above x ys (λ k z within. all (suc k) z (omega arith)) d)
  where
    by : (b : Bool) → (y == d) ≡ b → (b || is_among ys d) ≡ true → (is_among ys d ≡ true → x < d) → x < d
    by true same e later = subst (λ z. x < z) (eqb-true y d same) (all zero zero (omega arith))
    by false other e later = later e

rises : (xs : List ℕ) → AllPairs (λ x y. x < y) xs → Rises xs
rises [] h = tt
rises (x ∷ xs) h = (above x xs (λ k e within. h zero (suc k) e (omega arith) (omega arith)), rises xs (λ i j d lt within. h (suc i) (suc j) d (omega arith) (omega arith)))

first_is : (x : ℕ) (xs : List ℕ) → is_among (x ∷ xs) x ≡ true
first_is x xs = ap (λ b. b || is_among xs x) (eq-eqb x x refl)

-- a first member is no greater than another member
least : (x d : ℕ) (xs : List ℕ) → Rises (x ∷ xs) → is_among (x ∷ xs) d ≡ true → x < suc d
least x d xs r e = by (x == d) refl e
  where
    by : (b : Bool) → (x == d) ≡ b → (b || is_among xs d) ≡ true → x < suc d
    by true same e = let is = eqb-true x d same in omega arith
    by false other e = let less = r.0 d e in omega arith

tails : (x : ℕ) (xs ys : List ℕ) → Rises (x ∷ xs) → Rises (x ∷ ys) → ((d : ℕ) → is_among (x ∷ xs) d ≡ is_among (x ∷ ys) d) → (d : ℕ) → is_among xs d ≡ is_among ys d
tails x xs ys one two same d = by (x == d) refl (same d) (is_among xs d) refl (is_among ys d) refl
  where
    by : (b : Bool) → (x == d) ≡ b → (b || is_among xs d) ≡ (b || is_among ys d) → (p : Bool) → is_among xs d ≡ p → (q : Bool) → is_among ys d ≡ q → is_among xs d ≡ is_among ys d
    by false other e p here q there = e
    by true first e true here q there = absurd (let less = one.0 d here in let is = eqb-true x d first in omega arith)
    by true first e false here true there = absurd (let less = two.0 d there in let is = eqb-true x d first in omega arith)
    by true first e false here false there = here ∙ sym there

same_rising : (xs ys : List ℕ) → Rises xs → Rises ys → ((d : ℕ) → is_among xs d ≡ is_among ys d) → xs ≡ ys
same_rising [] [] one two same = refl
same_rising [] (y ∷ ys) one two same = absurd (let e : false ≡ true = same y ∙ first_is y ys in cc)
same_rising (x ∷ xs) [] one two same = absurd (let e : true ≡ false = sym (first_is x xs) ∙ same x in cc)
same_rising (x ∷ xs) (y ∷ ys) one two same =
    let low = least x y xs one (same y ∙ first_is y ys) in
    let high = least y x ys two (sym (same x) ∙ first_is x xs) in
    let is : y ≡ x = omega arith in
    let two_here : Rises (x ∷ ys) = subst (λ z. Rises (z ∷ ys)) is two in
    let same_here : (d : ℕ) → is_among (x ∷ xs) d ≡ is_among (x ∷ ys) d = subst (λ z. (d : ℕ) → is_among (x ∷ xs) d ≡ is_among (z ∷ ys) d) is same in
    ap (λ zs. x ∷ zs) (same_rising xs ys one.1 two.1 (tails x xs ys one two_here same_here)) ∙ ap (λ z. z ∷ ys) (sym is)

pub same_members : (xs ys : List ℕ) → IsStrictlyIncreasing xs → IsStrictlyIncreasing ys → ((d : ℕ) → is_among xs d ≡ is_among ys d) → xs ≡ ys
same_members xs ys one two same = same_rising xs ys (rises xs (AllPairs-from_increasing xs one)) (rises ys (AllPairs-from_increasing ys two)) same
