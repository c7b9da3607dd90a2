-- The first lines of bytes.
use Rattle.std.proofs.Common.{arith, ◌≡◌, ℕ, zero, suc, ◌-◌, ◌<◌, ◌≤◌, true, false, cond, ◌==◌, List, [], ◌∷◌, ◌++◌, refl, sym, ap, subst, ◌∙◌}
use Rattle.fed_http.specs.Lines.{line_feeds, first_lines}

pub first-front : (xs : List ℕ) (n : ℕ) → (rest : List ℕ) × (xs ≡ first_lines xs n ++ rest)
first-front [] n = ([], refl)
first-front (x ∷ xs) zero = (x ∷ xs, refl)
first-front (x ∷ xs) (suc n) =
    let more = first-front xs (cond (x == 10) n (suc n)) in (more.0, ap (λ v. x ∷ v) more.1)

pub first-append : (xs ys : List ℕ) (n : ℕ) → (more : List ℕ) × (first_lines (xs ++ ys) n ≡ first_lines xs n ++ more)
first-append [] ys n = (first_lines ys n, refl)
first-append (x ∷ xs) ys zero = ([], refl)
first-append (x ∷ xs) ys (suc n) =
    let more = first-append xs ys (cond (x == 10) n (suc n)) in (more.0, ap (λ v. x ∷ v) more.1)

pub first_of_none : (ys : List ℕ) → first_lines ys 0 ≡ []
first_of_none [] = refl
first_of_none (y ∷ ys) = refl

-- where all of them have ended, what follows does not matter
pub first-full : (xs ys : List ℕ) (n : ℕ) → n ≤ line_feeds (first_lines xs n) → first_lines (xs ++ ys) n ≡ first_lines xs n
first-full [] ys zero full = first_of_none ys
first-full [] ys (suc n) full = absurd (omega arith)
first-full (x ∷ xs) ys zero full = refl
first-full (x ∷ xs) ys (suc n) full =
    elim (x == 10) as (λ b. suc n ≤ cond b (suc (line_feeds (first_lines xs (cond b n (suc n))))) (line_feeds (first_lines xs (cond b n (suc n)))) → ◌≡◌ {A = List ℕ} (x ∷ first_lines (xs ++ ys) (cond b n (suc n))) (x ∷ first_lines xs (cond b n (suc n)))) [
      | true ↦ λ few. ap (λ v. x ∷ v) (first-full xs ys n (omega arith))
      | false ↦ λ few. ap (λ v. x ∷ v) (first-full xs ys (suc n) few)
    ] full

pub first-count : (xs : List ℕ) (n : ℕ) → line_feeds (first_lines xs n) ≤ n
first-count [] n = omega arith
first-count (x ∷ xs) zero = omega arith
first-count (x ∷ xs) (suc n) =
    elim (x == 10) as (λ b. cond b (suc (line_feeds (first_lines xs (cond b n (suc n))))) (line_feeds (first_lines xs (cond b n (suc n)))) ≤ suc n) [
      | true ↦ omega (arith, first-count xs n)
      | false ↦ first-count xs (suc n)
    ]

-- a part in which so many lines end is all of them
pub first-stops : (xs front rest : List ℕ) (n : ℕ) → first_lines xs n ≡ front ++ rest → n ≤ line_feeds front → rest ≡ []
first-stops [] [] rest n e full = sym e
first-stops [] (f ∷ front) rest n e full = absurd (cc)
first-stops (x ∷ xs) [] rest zero e full = sym e
first-stops (x ∷ xs) [] rest (suc n) e full = absurd (omega arith)
first-stops (x ∷ xs) (f ∷ front) rest zero e full = absurd (cc)
first-stops (x ∷ xs) (f ∷ front) rest (suc n) e full =
    let same : x ≡ f = cc in
    let others : first_lines xs (cond (x == 10) n (suc n)) ≡ front ++ rest = cc in
    let counted : suc n ≤ cond (x == 10) (suc (line_feeds front)) (line_feeds front) = subst (λ v. suc n ≤ cond (v == 10) (suc (line_feeds front)) (line_feeds front)) (sym same) full in
    elim (x == 10) as (λ b. first_lines xs (cond b n (suc n)) ≡ front ++ rest → suc n ≤ cond b (suc (line_feeds front)) (line_feeds front) → rest ≡ []) [
      | true ↦ λ is few. first-stops xs front rest n is (omega arith)
      | false ↦ λ is few. first-stops xs front rest (suc n) is few
    ] others counted

-- behind a part with fewer lines come the others
pub first-behind : (xs ys : List ℕ) (n : ℕ) → line_feeds xs < n → first_lines (xs ++ ys) n ≡ xs ++ first_lines ys (n - line_feeds xs)
first-behind [] ys n few = let same : n ≡ n - 0 = omega arith in ap (first_lines ys) same
first-behind (x ∷ xs) ys zero few = absurd (omega arith)
first-behind (x ∷ xs) ys (suc n) few =
    elim (x == 10) as (λ b. cond b (suc (line_feeds xs)) (line_feeds xs) < suc n
    → ◌≡◌ {A = List ℕ} (x ∷ first_lines (xs ++ ys) (cond b n (suc n))) (x ∷ (xs ++ first_lines ys (suc n - cond b (suc (line_feeds xs)) (line_feeds xs))))) [
      | true ↦ λ less. let fewer : line_feeds xs < n = omega arith in let left : n - line_feeds xs ≡ suc n - suc (line_feeds xs) = omega arith in ap (λ v. x ∷ v) (first-behind xs ys n fewer ∙ ap (λ k. xs ++ first_lines ys k) left)
      | false ↦ λ less. ap (λ v. x ∷ v) (first-behind xs ys (suc n) less)
    ] few
