-- Marks that follow numbers.
use Rattle.std.proofs.Common.{◌⊎◌, inl, inr, arith, ◌≡◌, ◌≢◌, ℕ, zero, suc, ◌+◌, ◌-◌, ◌<◌, ◌≤◌, ◌==◌, Bool, true, false, not, ◌&&◌, cond, if◌then◌else◌, List, [], ◌∷◌, ◌++◌, length, get_or, set, replicate, Some, None, refl, sym, ap, ◌∙◌}
use Rattle.std.proofs.lemmas.Bool.{cases_Bool, cases_eq}
use Rattle.std.proofs.lemmas.Bool.Decides.{nat_tests}
use Rattle.std.proofs.lemmas.List.{length-set, length-replicate, get_or-set_same, get_or-set_other, get_or-replicate, get_or_default}
use Rattle.std.proofs.lemmas.List.Sums.{sum_by-cons, AllPass-from_list_all, list_all-from_AllPass}
use Rattle.fed_hub_told.specs.Numbers.{is_within, times, AreEachOnce}
use Rattle.fed_hub_told.specs.Marks.{no_marks, is_free, with_mark, are_all_marked, marks_after}

abbrev bit : Bool → ℕ
bit b = if b then 1 else 0

-- whether a number is marked
abbrev is_marked : List Bool → ℕ → Bool
is_marked marks number = is_within (length marks) number && get_or marks (number - 1) false

-- with these numbers each number that there are marks for comes once
abbrev Completes : List Bool → List ℕ → Type 0
Completes marks numbers = (k : ℕ) → bit (is_marked marks k) + times k numbers ≡ bit (is_within (length marks) k)

-- ---- one more mark

free_at : (n j : ℕ) (b : Bool) → (is_within n j && not b) ≡ true → (1 ≤ j) × (j ≤ n) × (b ≡ false)
free_at n j b h = grind (arith, nat_tests)

at_same : (n j k : ℕ) (now new : Bool) → k ≡ j → 1 ≤ j → j ≤ n → now ≡ false → new ≡ true → bit (is_within n k && new) ≡ bit (is_within n k && now) + bit (j == k)
at_same n j k now new same low high was is = grind (arith, nat_tests)

at_other : (n j k : ℕ) (now new : Bool) → k ≢ j → (1 ≤ k → new ≡ now) → bit (is_within n k && new) ≡ bit (is_within n k && now) + bit (j == k)
at_other n zero k now new apart stays = grind (arith, nat_tests)
at_other n (suc j) zero now new apart stays = grind (arith, nat_tests)
at_other n (suc j) (suc k) now new apart stays = grind (arith, nat_tests, stays (omega arith))

marked_at : (marks : List Bool) (j k : ℕ) → 1 ≤ j → j ≤ length marks → get_or marks (j - 1) false ≡ false
    → bit (is_within (length marks) k && get_or (set marks (j - 1) true) (k - 1) false) ≡ bit (is_marked marks k) + bit (j == k)
marked_at marks j k low high free = elim (cases_eq k j) [
  | inl same ↦ at_same (length marks) j k (get_or marks (k - 1) false) _ same low high (ap (λ i. get_or marks (i - 1) false) same ∙ free)
      (ap (λ i. get_or (set marks (j - 1) true) (i - 1) false) same ∙ get_or-set_same marks (j - 1) true false (omega arith))
  | inr apart ↦ at_other (length marks) j k (get_or marks (k - 1) false) _ apart (λ some. get_or-set_other marks (j - 1) (k - 1) true false (λ same. apart (omega arith)))
]

length-with_mark : (marks : List Bool) (j : ℕ) → length (with_mark marks j) ≡ length marks
length-with_mark marks j = by (is_free marks j)
  where
    by : (b : Bool) → length (if b then set marks (j - 1) true else marks) ≡ length marks
    by true = length-set marks (j - 1) true
    by false = refl

is_marked-with_mark : (marks : List Bool) (j k : ℕ) → is_free marks j ≡ true → bit (is_marked (with_mark marks j) k) ≡ bit (is_marked marks k) + bit (j == k)
is_marked-with_mark marks j k free =
    let at = free_at (length marks) j (get_or marks (j - 1) false) free in
    let new : with_mark marks j ≡ set marks (j - 1) true = ap (λ b. if b then set marks (j - 1) true else marks) free in
    ap (λ ms. bit (is_marked ms k)) new
    ∙ ap (λ n. bit (is_within n k && get_or (set marks (j - 1) true) (k - 1) false)) (length-set marks (j - 1) true)
    ∙ marked_at marks j k at.0 at.1 at.2

-- ---- all marks

all_from : (marks : List Bool) → ((k : ℕ) → bit (is_marked marks k) ≡ bit (is_within (length marks) k)) → are_all_marked marks ≡ true
all_from marks full = list_all-from_AllPass (λ m. m) marks (λ k d within. get_or_default marks k d false within ∙ ap (λ i. get_or marks i false) (back k) ∙ told_at (length marks) k (get_or marks (suc k - 1) false) within (full (suc k)))
  where
    back : (k : ℕ) → k ≡ suc k - 1
    back k = omega arith

    told_at : (n k : ℕ) (b : Bool) → k < n → bit (is_within n (suc k) && b) ≡ bit (is_within n (suc k)) → b ≡ true
    told_at n k b within told = grind (arith, nat_tests)

all_to : (marks : List Bool) (k : ℕ) → are_all_marked marks ≡ true → bit (is_marked marks k) ≡ bit (is_within (length marks) k)
all_to marks k all = told_at (length marks) k (get_or marks (k - 1) false) (λ within. AllPass-from_list_all (λ m. m) marks all (k - 1) false within)
  where
    told_at : (n k : ℕ) (b : Bool) → (k - 1 < n → b ≡ true) → bit (is_within n k && b) ≡ bit (is_within n k)
    told_at n zero b told = grind (arith, nat_tests)
    told_at n (suc k) b told = grind (arith, nat_tests)

none_marked : (n k : ℕ) → bit (is_marked (no_marks n) k) ≡ 0
none_marked n k = ap (λ m. bit (is_within m k && get_or (replicate n false) (k - 1) false)) (length-replicate n false) ∙ none_at n k (get_or (replicate n false) (k - 1) false) (λ within. get_or-replicate n (k - 1) false false within)
  where
    none_at : (n k : ℕ) (b : Bool) → (k - 1 < n → b ≡ false) → bit (is_within n k && b) ≡ 0
    none_at n zero b told = grind (arith, nat_tests)
    none_at n (suc k) b told = grind (arith, nat_tests)

-- ---- numbers one after another

times-cons : (k j : ℕ) (numbers : List ℕ) → times k (j ∷ numbers) ≡ bit (j == k) + times k numbers
times-cons k j numbers = sum_by-cons (λ other. cond (other == k) 1 0) j numbers

-- where the next number completes the marks together with those behind it, it is free
completing_free : (marks : List Bool) (j : ℕ) (numbers : List ℕ) → Completes marks (j ∷ numbers) → is_free marks j ≡ true
completing_free marks j numbers completes = free_from (length marks) j (times j (j ∷ numbers)) (times j numbers) (get_or marks (j - 1) false) (completes j) (times-cons j j numbers)
  where
    free_from : (n j with_it t : ℕ) (b : Bool) → bit (is_within n j && b) + with_it ≡ bit (is_within n j) → with_it ≡ bit (j == j) + t → (is_within n j && not b) ≡ true
    free_from n j with_it t b told more = grind (arith, nat_tests)

next_from : (was is with_it t one w v : ℕ) → is ≡ was + one → with_it ≡ one + t → v ≡ w → was + with_it ≡ w → is + t ≡ v
next_from was is with_it t one w v new more same told = omega arith

before_from : (was is with_it t one w v : ℕ) → is ≡ was + one → with_it ≡ one + t → v ≡ w → is + t ≡ v → was + with_it ≡ w
before_from was is with_it t one w v new more same told = omega arith

completes_next : (marks : List Bool) (j : ℕ) (numbers : List ℕ) → is_free marks j ≡ true → Completes marks (j ∷ numbers) → Completes (with_mark marks j) numbers
completes_next marks j numbers free completes = λ k.
    next_from _ _ _ _ _ _ _ (is_marked-with_mark marks j k free) (times-cons k j numbers) (ap (λ n. bit (is_within n k)) (length-with_mark marks j)) (completes k)

completes_before : (marks : List Bool) (j : ℕ) (numbers : List ℕ) → is_free marks j ≡ true → Completes (with_mark marks j) numbers → Completes marks (j ∷ numbers)
completes_before marks j numbers free completes = λ k.
    before_from _ _ _ _ _ _ _ (is_marked-with_mark marks j k free) (times-cons k j numbers) (ap (λ n. bit (is_within n k)) (length-with_mark marks j)) (completes k)

nothing_more : (m w : ℕ) → m + 0 ≡ w → m ≡ w
nothing_more m w told = omega arith

-- numbers that complete the marks can be marked, and then all are
completed : (marks : List Bool) (numbers : List ℕ) → Completes marks numbers → (after : List Bool) × (marks_after marks numbers ≡ Some after) × (are_all_marked after ≡ true)
completed marks [] completes = (marks, refl, all_from marks (λ k. nothing_more _ _ (completes k)))
completed marks (j ∷ numbers) completes =
    let free = completing_free marks j numbers completes in
    let rest = completed (with_mark marks j) numbers (completes_next marks j numbers free completes) in
    (rest.0, ap (λ b. if b then marks_after (with_mark marks j) numbers else None) free ∙ rest.1, rest.2)

some_more : (m w : ℕ) → m ≡ w → m + 0 ≡ w
some_more m w told = omega arith

-- numbers that can be marked complete the marks where then all are
completing : (marks : List Bool) (numbers : List ℕ) (after : List Bool) → marks_after marks numbers ≡ Some after → are_all_marked after ≡ true → Completes marks numbers
completing marks [] after told all = λ k.
    let same : marks ≡ after = cc in
    some_more _ _ (all_to marks k (ap are_all_marked same ∙ all))
completing marks (j ∷ numbers) after told all = by (cases_Bool (is_free marks j)) (λ rest. completing (with_mark marks j) numbers after rest all)
  where
    by : (is_free marks j ≡ true) ⊎ (is_free marks j ≡ false) → (marks_after (with_mark marks j) numbers ≡ Some after → Completes (with_mark marks j) numbers) → Completes marks (j ∷ numbers)
    by (inl free) behind = completes_before marks j numbers free (behind (sym (ap (λ b. if b then marks_after (with_mark marks j) numbers else None) free) ∙ told))
    by (inr taken) behind =
        let none : None ≡ Some after = sym (ap (λ b. if b then marks_after (with_mark marks j) numbers else None) taken) ∙ told in
        absurd (cc)

-- ---- the numbers from 1 to a count

once_from : (m t w v : ℕ) → m ≡ 0 → v ≡ w → m + t ≡ v → t ≡ w
once_from m t w v none same told = omega arith

completes_from : (m t w v : ℕ) → m ≡ 0 → v ≡ w → t ≡ w → m + t ≡ v
completes_from m t w v none same told = omega arith

pub each_once_from : (n : ℕ) (numbers : List ℕ) (marks : List Bool) → marks_after (no_marks n) numbers ≡ Some marks → are_all_marked marks ≡ true → AreEachOnce n numbers
each_once_from n numbers marks told all = λ k.
    once_from _ _ _ _ (none_marked n k) (ap (λ m. bit (is_within m k)) (length-replicate n false)) (completing (no_marks n) numbers marks told all k)

pub marked_from : (n : ℕ) (numbers : List ℕ) → AreEachOnce n numbers → (marks : List Bool) × (marks_after (no_marks n) numbers ≡ Some marks) × (are_all_marked marks ≡ true)
marked_from n numbers once = completed (no_marks n) numbers (λ k. completes_from _ _ _ _ (none_marked n k) (ap (λ m. bit (is_within m k)) (length-replicate n false)) (once k))

-- ---- marks after the first of some numbers

pub marks_after-append : (marks mid : List Bool) (xs ys : List ℕ) → marks_after marks xs ≡ Some mid → marks_after marks (xs ++ ys) ≡ marks_after mid ys
marks_after-append marks mid [] ys told =
    let same : marks ≡ mid = cc in
    ap (λ ms. marks_after ms ys) same
marks_after-append marks mid (x ∷ xs) ys told = by (is_free marks x) told (λ told. marks_after-append (with_mark marks x) mid xs ys told)
  where
    by : (b : Bool) → (if b then marks_after (with_mark marks x) xs else None) ≡ Some mid
        → (marks_after (with_mark marks x) xs ≡ Some mid → marks_after (with_mark marks x) (xs ++ ys) ≡ marks_after mid ys)
        → (if b then marks_after (with_mark marks x) (xs ++ ys) else None) ≡ marks_after mid ys
    by true told rest = rest told
    by false told rest = absurd (cc)

pub marks_after-front : (marks after : List Bool) (xs ys : List ℕ) → marks_after marks (xs ++ ys) ≡ Some after → (mid : List Bool) × (marks_after marks xs ≡ Some mid)
marks_after-front marks after [] ys told = (marks, refl)
marks_after-front marks after (x ∷ xs) ys told = by (is_free marks x) told (λ told. marks_after-front (with_mark marks x) after xs ys told)
  where
    by : (b : Bool) → (if b then marks_after (with_mark marks x) (xs ++ ys) else None) ≡ Some after
        → (marks_after (with_mark marks x) (xs ++ ys) ≡ Some after → (mid : List Bool) × (marks_after (with_mark marks x) xs ≡ Some mid))
        → (mid : List Bool) × ((if b then marks_after (with_mark marks x) xs else None) ≡ Some mid)
    by true told rest = rest told
    by false told rest = absurd (cc)
