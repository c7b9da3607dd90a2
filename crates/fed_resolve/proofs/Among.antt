-- What is among some places.
use Rattle.std.proofs.Common.{◌≡◌, ◌<◌, ◌≤◌, ℕ, List, [], ◌∷◌, length, Bool, true, false, true≢false, not, ◌&&◌, ◌||◌, cond, eqb, All, refl, sym, ap, subst, ◌∙◌, arith, ◌⊎◌, inl, inr}
use Rattle.std.proofs.lemmas.Bool.{cases_eq, cases_lt, eq-eqb, eqb-true, ne_eqb, or_left, or_right, or_cases, and_from}
use Rattle.std.proofs.lemmas.List.Elements.{All-head, All-tail}
use Rattle.std.proofs.lemmas.List.Folds.{list_any_at}
use Rattle.std.specs.List.{list_all, filter, slice_index_or}
use Rattle.fed_resolve.specs.Order.{is_among, without}

pub among-at : (places : List ℕ) (k d : ℕ) → k < length places → is_among places (slice_index_or places k d) ≡ true
among-at places k d h =
    let place = slice_index_or places k d in
    list_any_at (λ p. eqb p place) places k d h (eq-eqb place place refl)

pub all-among : (P : ℕ → Type 0) (places : List ℕ) → All P places → (q : ℕ) → is_among places q ≡ true → P q
all-among P [] all q h = absurd (true≢false (sym h))
all-among P (place ∷ places) all q h = by (all-among P places (All-tail P place places all) q) (or_cases (eqb place q) (is_among places q) h)
  where
    by : (is_among places q ≡ true → P q) → (eqb place q ≡ true) ⊎ (is_among places q ≡ true) → P q
    by rest (inl t) = subst P (eqb-true place q t) (All-head P place places all)
    by rest (inr t) = rest t

pub each-among : (test : ℕ → Bool) (places : List ℕ) → ((q : ℕ) → is_among places q ≡ true → test q ≡ true) → list_all test places ≡ true
each-among test [] each = refl
each-among test (place ∷ places) each =
    and_from (test place) (list_all test places) (each place (or_left (eqb place place) (is_among places place) (eq-eqb place place refl)))
    (each-among test places (λ q h. each q (or_right (eqb place q) (is_among places q) h)))

one_more : (b : Bool) (place q : ℕ) (places : List ℕ) → is_among (cond b (place ∷ places) places) q ≡ cond b (eqb place q || is_among places q) (is_among places q)
one_more true place q places = refl
one_more false place q places = refl

either : (test : ℕ → Bool) (place q : ℕ) (a : Bool) → (place ≡ q) ⊎ ((place ≡ q) → ⊥) → cond (test place) (eqb place q || (a && test q)) (a && test q) ≡ ((eqb place q || a) && test q)
either test place q a (inl e) = by (test q) (ap test e)
  where
    there : (b : Bool) → cond b (true || (a && b)) (a && b) ≡ ((true || a) && b)
    there true = refl
    there false = elim a as (λ c. (c && false) ≡ false) [ true ↦ refl | false ↦ refl ]

    by : (b : Bool) → test place ≡ b → cond (test place) (eqb place q || (a && b)) (a && b) ≡ ((eqb place q || a) && b)
    by b t = (λ i. cond (t i) (eq-eqb place q e i || (a && b)) (a && b)) ∙ there b ∙ sym (ap (λ c. (c || a) && b) (eq-eqb place q e))
either test place q a (inr n) = (λ i. cond (test place) (ne_eqb place q n i || (a && test q)) (a && test q)) ∙ both (test place) ∙ sym (ap (λ c. (c || a) && test q) (ne_eqb place q n))
  where
    both : (b : Bool) → cond b (false || (a && test q)) (a && test q) ≡ ((false || a) && test q)
    both true = refl
    both false = refl

pub among-filter : (test : ℕ → Bool) (places : List ℕ) (q : ℕ) → is_among (filter test places) q ≡ (is_among places q && test q)
among-filter test [] q = refl
among-filter test (place ∷ places) q =
    one_more (test place) place q (filter test places)
    ∙ ap (λ a. cond (test place) (eqb place q || a) a) (among-filter test places q)
    ∙ either test place q (is_among places q) (cases_eq place q)

-- there are fewer without one that is among them
kept_at_most : (test : ℕ → Bool) (places : List ℕ) → length (filter test places) ≤ length places
kept_at_most test [] = omega arith
kept_at_most test (place ∷ places) = by (test place) (kept_at_most test places)
  where
    by : (b : Bool) → length (filter test places) ≤ length places → length (cond b (place ∷ filter test places) (filter test places)) ≤ length (place ∷ places)
    by true rest = omega arith
    by false rest = omega arith

pub fewer : (place : ℕ) (places : List ℕ) → is_among places place ≡ true → length (without place places) < length places
fewer place [] h = absurd (true≢false (sym h))
fewer place (p ∷ places) h = by (eqb p place) h (fewer place places) (kept_at_most (λ q. not (eqb q place)) places)
  where
    by : (b : Bool) → (b || is_among places place) ≡ true → (is_among places place ≡ true → length (without place places) < length places) → length (without place places) ≤ length places
        → length (cond (not b) (p ∷ without place places) (without place places)) < length (p ∷ places)
    by true t rest most = omega arith
    by false t rest most = let less = rest t in omega arith

-- the least of some places
least_from : (place : ℕ) (places : List ℕ) → (r : ℕ) × ((is_among (place ∷ places) r ≡ true) × ((q : ℕ) → is_among (place ∷ places) q ≡ true → r ≤ q))
least_from place [] = (place, (or_left (eqb place place) false (eq-eqb place place refl), λ q h. only q (or_cases (eqb place q) false h)))
  where
    only : (q : ℕ) → (eqb place q ≡ true) ⊎ (false ≡ true) → place ≤ q
    only q (inl t) = let same = eqb-true place q t in omega arith
    only q (inr t) = absurd (cc)
least_from place (p ∷ places) = by (least_from p places)
  where
    by : (r : ℕ) × ((is_among (p ∷ places) r ≡ true) × ((q : ℕ) → is_among (p ∷ places) q ≡ true → r ≤ q))
        → (r : ℕ) × ((is_among (place ∷ p ∷ places) r ≡ true) × ((q : ℕ) → is_among (place ∷ p ∷ places) q ≡ true → r ≤ q))
    by (r, (there, least)) = or (cases_lt r place)
      where
        or : (r < place) ⊎ (place ≤ r) → (s : ℕ) × ((is_among (place ∷ p ∷ places) s ≡ true) × ((q : ℕ) → is_among (place ∷ p ∷ places) q ≡ true → s ≤ q))
        or (inl less) = (r, (or_right (eqb place r) (is_among (p ∷ places) r) there, λ q h. under q (or_cases (eqb place q) (is_among (p ∷ places) q) h)))
          where
            under : (q : ℕ) → (eqb place q ≡ true) ⊎ (is_among (p ∷ places) q ≡ true) → r ≤ q
            under q (inl t) = let same = eqb-true place q t in omega arith
            under q (inr t) = least q t
        or (inr most) = (place, (or_left (eqb place place) (is_among (p ∷ places) place) (eq-eqb place place refl), λ q h. under q (or_cases (eqb place q) (is_among (p ∷ places) q) h)))
          where
            under : (q : ℕ) → (eqb place q ≡ true) ⊎ (is_among (p ∷ places) q ≡ true) → place ≤ q
            under q (inl t) = let same = eqb-true place q t in omega arith
            under q (inr t) = let above = least q t in omega arith

pub least : (places : List ℕ) (p : ℕ) → is_among places p ≡ true → (r : ℕ) × ((is_among places r ≡ true) × ((q : ℕ) → is_among places q ≡ true → r ≤ q))
least [] p h = absurd (true≢false (sym h))
least (place ∷ places) p h = least_from place places
