-- Elements are sorted in one way.
use Rattle.std.proofs.Common.{◌≡◌, ◌+◌, ◌≤◌, ℕ, suc, List, [], ◌∷◌, Bool, true, false, true≢false, cond, get_or, Ordering, Less, Equal, Greater, refl, sym, ap, ◌∙◌, subst, arith}
use Rattle.std.specs.Prelude.{All, sum_by}
use Rattle.std.specs.Cmp.{IsTotalOrder}
use Rattle.std.specs.FinMap.{IsAntisymmetric}
use Rattle.std.specs.List.Sorted.{IsSorted}
use Rattle.std.specs.Ordering.{is_lt, ordering_reverse}
use Rattle.std.proofs.lemmas.List.MinMax.{ranks_by}
use Rattle.std.proofs.lemmas.List.Sorted.{sorted_far}
use Rattle.std.proofs.lemmas.List.Sums.{sum_by-cons, sum_by-le}

not_less : (o : Ordering) → o ≡ ordering_reverse o → is_lt o ≡ false
not_less Less h = cc
not_less Equal h = refl
not_less Greater h = refl

less : (o : Ordering) → is_lt o ≡ true → o ≡ Less
less Less h = refl
less Equal h = absurd (true≢false (sym h))
less Greater h = absurd (true≢false (sym h))

module _ {X : Type 0} (cmp : X → X → Ordering) (total : IsTotalOrder cmp) (same : IsAntisymmetric cmp) where
  abbrev before : X → X → Bool
  before x y = is_lt (cmp x y)

  -- each element stands in both lists as often
  abbrev pub AreAsMany : List X → List X → Type 0
  AreAsMany xs ys = (f : X → ℕ) → sum_by f xs ≡ sum_by f ys

  -- 1 for what x is not before
  abbrev counted : X → X → ℕ
  counted x z = cond (before x z) 0 1

  itself : (x : X) → before x x ≡ false
  itself x = not_less (cmp x x) (total.antisymm x x)

  through : (x y z : X) → before x y ≡ true → before z y ≡ false → before x z ≡ true
  through x y z first last = by (cmp y z) refl
    where
      by : (o : Ordering) → cmp y z ≡ o → before x z ≡ true
      by Less h = ap is_lt (total.trans x y z (less (cmp x y) first) h)
      by Equal h = ap (before x) (sym (same y z h)) ∙ first
      by Greater h = absurd (true≢false (sym (ap is_lt (total.antisymm z y ∙ ap ordering_reverse h)) ∙ last))

  neither : (x y : X) → before x y ≡ false → before y x ≡ false → x ≡ y
  neither x y first last = by (cmp x y) refl
    where
      by : (o : Ordering) → cmp x y ≡ o → x ≡ y
      by Less h = absurd (true≢false (sym (ap is_lt h) ∙ first))
      by Equal h = same x y h
      by Greater h = absurd (true≢false (sym (ap is_lt (total.antisymm y x ∙ ap ordering_reverse h)) ∙ last))

  sorted_behind : (x : X) (xs : List X) → IsSorted cmp (x ∷ xs) → IsSorted cmp xs
  sorted_behind x xs sorted k d low high =
      let e : suc k + 1 ≡ suc (k + 1) = omega arith in
      subst (λ n. before (get_or (x ∷ xs) n d) (get_or xs k d) ≡ false) e (sorted (suc k) d (omega arith) (omega arith))

  -- the first of one list is not before the first of the other
  not_first : (x y : X) (xs ys : List X) → AreAsMany (x ∷ xs) (y ∷ ys) → IsSorted cmp (y ∷ ys) → before x y ≡ false
  not_first x y xs ys many sorted = by (before x y) refl
    where
      behind : before x y ≡ true → All (λ z. counted x z ≤ 0) (y ∷ ys)
      behind first k d inside =
          let z = get_or (y ∷ ys) k d in
          let back : before z y ≡ false = sorted_far before (ranks_by total (λ v. v)) (y ∷ ys) sorted 0 k d (omega arith) inside in
          let none : counted x z ≡ 0 = ap (λ b. cond b 0 1) (through x y z first back) in
          omega (arith, none)

      by : (b : Bool) → before x y ≡ b → before x y ≡ false
      by false h = h
      by true h =
          let own : counted x x ≡ 1 = ap (λ b. cond b 0 1) (itself x) in
          absurd (omega (arith, own, many (counted x), sum_by-cons (counted x) x xs, sum_by-le (counted x) 0 (y ∷ ys) (behind h)))

  -- lists with the same elements, each as often, are sorted as one list
  pub sorted-one : (xs ys : List X) → AreAsMany xs ys → IsSorted cmp xs → IsSorted cmp ys → xs ≡ ys
  sorted-one [] [] many p q = refl
  sorted-one [] (y ∷ ys) many p q = absurd (omega (arith, many (λ (_ : X). 1), sum_by-cons (λ (_ : X). 1) y ys))
  sorted-one (x ∷ xs) [] many p q = absurd (omega (arith, many (λ (_ : X). 1), sum_by-cons (λ (_ : X). 1) x xs))
  sorted-one (x ∷ xs) (y ∷ ys) many p q =
      let first : x ≡ y = neither x y (not_first x y xs ys many q) (not_first y x ys xs (λ f. sym (many f)) p) in
      let others : AreAsMany xs ys = λ f. omega (arith, many f, sum_by-cons f x xs, sum_by-cons f y ys, ap f first) in
      ap (λ z. z ∷ xs) first ∙ ap (λ zs. y ∷ zs) (sorted-one xs ys others (sorted_behind x xs p) (sorted_behind y ys q))
