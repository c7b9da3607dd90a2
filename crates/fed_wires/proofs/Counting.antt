-- Each step of a board keeps its rule.
use Rattle.std.proofs.Common.{◌≡◌, ◌≢◌, ℕ, zero, suc, ◌+◌, ◌<◌, ◌≤◌, Bool, cond, eqb, eq-eqb, ne_eqb, List, [], ◌∷◌, length, get_or, set, replicate, max, sym, refl, ap, ◌∙◌, subst, ⊎_elim, arith}
use Rattle.std.proofs.Math.ListN.{length-set}
use Rattle.std.proofs.lemmas.List.{get_or-set_same, get_or-set_other, set-get_or}
use mathlib.Core.Option.{some, none}
use lib.ListN.{get_elem?}
use Rattle.atomic_table.specs.Table.{Me, Allows, Splits, Joins, opening, step}
use Rattle.atomic_table.specs.Table.Act.{keeps}
use Rattle.atomic_table.proofs.Lists.{at_set}
use Rattle.fed_wires.specs.declared.board_rule.Look.{Look}
use Rattle.fed_wires.specs.BoardRule.{owned, look, looker, all_words, without_first, first_alone, Fits, Counted, Loaded, Raised}
use Rattle.fed_wires.proofs.Views.{Each, each_set, each_more, each_one}

zero_at : (n k : ℕ) → get_or {A = ℕ} (replicate n 0) k 0 ≡ 0
zero_at zero k = refl
zero_at (suc n) zero = refl
zero_at (suc n) (suc k) = zero_at n k

-- what was found in a word is no more than the word
seen_now : (seen words : List ℕ) (i : ℕ) → ((k : ℕ) → get_or seen k 0 ≤ get_or words k 0) → (k : ℕ) → get_or (set seen i (get_or words i 0)) k 0 ≤ get_or words k 0
seen_now [] words i below k = below k
seen_now (x ∷ xs) words zero below zero = omega arith
seen_now (x ∷ xs) words zero below (suc k) = below (suc k)
seen_now (x ∷ xs) words (suc i) below zero = below zero
seen_now (x ∷ xs) [] (suc i) below (suc k) = seen_now xs [] i (λ j. below (suc j)) k
seen_now (x ∷ xs) (y ∷ ys) (suc i) below (suc k) = seen_now xs ys i (λ j. below (suc j)) k

-- no word falls
rises : (words : List ℕ) (i count k : ℕ) → get_or words k 0 ≤ get_or (set words i (max (get_or words i 0) count)) k 0
rises [] i count k = omega arith
rises (x ∷ xs) zero count zero = omega arith
rises (x ∷ xs) zero count (suc k) = omega arith
rises (x ∷ xs) (suc i) count zero = omega arith
rises (x ∷ xs) (suc i) count (suc k) = rises xs i count k

-- the word d gets a new owner
handed : ℕ → ℕ → (ℕ → ℕ) → ℕ → ℕ
handed d new owner k = cond (eqb k d) new (owner k)

handed_here : (d new : ℕ) (owner : ℕ → ℕ) → handed d new owner d ≡ new
unfolding handed
handed_here d new owner = let P : Bool → Type 0 = λ b. cond b new (owner d) ≡ new in subst P (sym (eq-eqb d d refl)) refl

handed_else : (d new : ℕ) (owner : ℕ → ℕ) (k : ℕ) → k ≢ d → handed d new owner k ≡ owner k
unfolding handed
handed_else d new owner k apart = let P : Bool → Type 0 = λ b. cond b new (owner k) ≡ owner k in subst P (sym (ne_eqb k d apart)) refl

-- all words are 0, and one seat owns them
pub begins : (size : ℕ) (words : List ℕ) → words ≡ replicate size 0 → length words ≡ size → Counted size (opening words [] (all_words size))
begins size words is len =
    let nil : (k : ℕ) → get_or words k 0 ≡ 0 = λ k. ap (λ (l : List ℕ). get_or l k 0) is ∙ zero_at size k in
    ((λ _. 0), len, each_one (Fits (λ _. 0) words) (all_words size) ((λ k _ _. (refl, nil k)), λ k. let seen = zero_at size k in omega arith))

-- a load finds the word as it is
pub loads : (size slots seat : ℕ) (me : Me (Unit {0}) Look) (i : ℕ) → Allows (Counted size) slots seat me i (λ n. n) (Loaded (step slots i 0 0 none) me)
loads size slots seat me i s h homes at small =
    let found : ℕ = get_or s.words i 0 in
    let w : Look = look me.0.owned (set me.0.seen i found) (me.0.loads + 1) in
    let mine = h.2 seat me.0 at in
    let same : set s.words i found ≡ s.words = set-get_or s.words i 0 in (
      w,
      keeps,
      tt,
      (
        h.0,
        ap length same ∙ h.1,
        subst (λ (words : List ℕ). Each (Fits h.0 words) (set s.views seat w)) (sym same) (each_set (Fits h.0 s.words) s.views seat w (mine.0, seen_now me.0.seen s.words i mine.1) (λ j u _ e. h.2 j u e)),
      ),
      (refl, mine.1 i, λ owns. (mine.0 i owns.0 owns.1).1),
    )

-- the owner of one word raises it
pub raises : (size slots seat : ℕ) (me : Me (Unit {0}) Look) (i count : ℕ) → me.0.owned.from ≡ i → me.0.owned.until ≡ i + 1 → i < size
    → Allows (Counted size) slots seat me i (λ n. max n count) (Raised (step slots i count 0 none) me)
raises size slots seat me i count from until within s h homes at small =
    let was : ℕ = get_or s.words i 0 in
    let w : Look = look (owned me.0.owned.from me.0.owned.until (max me.0.owned.count count)) me.0.seen me.0.loads in
    let mine = h.2 seat me.0 at in
    let own : (h.0 i ≡ seat) × (was ≡ me.0.owned.count) = mine.0 i (omega arith) (omega arith) in
    let words : List ℕ = set s.words i (max was count) in
    let now : get_or words i 0 ≡ max me.0.owned.count count = get_or-set_same s.words i (max was count) 0 (omega (arith, h.1)) ∙ ap (λ (n : ℕ). max n count) own.1 in
    let rest : (k : ℕ) → k ≢ i → get_or words k 0 ≡ get_or s.words k 0 = λ k apart. get_or-set_other s.words i k (max was count) 0 apart in (
      w,
      keeps,
      tt,
      (
        h.0,
        length-set s.words i (max was count) ∙ h.1,
        each_set (Fits h.0 words) s.views seat w
            ((λ k low high. let is : k ≡ i = omega arith in (ap h.0 is ∙ own.0, ap (λ (j : ℕ). get_or words j 0) is ∙ now)), λ k. let saw = mine.1 k in let more = rises s.words i count k in omega arith)
            (λ j u apart e.
            let theirs = h.2 j u e in (
              (λ k low high. let had = theirs.0 k low high in (had.0, rest k (λ (is : k ≡ i). apart (sym had.0 ∙ ap h.0 is ∙ own.0)) ∙ had.1)),
              λ k. let saw = theirs.1 k in let more = rises s.words i count k in omega arith,
            )),
      ),
      refl,
    )

-- a new seat owns the first of a seat's words
pub deals : (size seat : ℕ) (v : Look) → v.owned.from < v.owned.until → Splits (Counted size) seat v (without_first v) (first_alone v)
deals size seat v some_word s h at =
    let d : ℕ = v.owned.from in
    let left : Look = without_first v in
    let vs : List Look = set s.views seat left in
    let owner : ℕ → ℕ = handed d (length vs) h.0 in
    let mine = h.2 seat v at in
    let own : (h.0 d ≡ seat) × (get_or s.words d 0 ≡ v.owned.count) = mine.0 d (omega arith) some_word in
    let else_ : (k : ℕ) → k ≢ d → owner k ≡ h.0 k = handed_else d (length vs) h.0 in
    let old : Each (Fits owner s.words) vs =
    each_set (Fits owner s.words) s.views seat left
    ((λ k low high. let had = mine.0 k (omega arith) high in (else_ k (λ (is : k ≡ d). omega arith) ∙ had.0, had.1)), mine.1)
    (λ j u apart e.
    let theirs = h.2 j u e in
    ((λ k low high. let had = theirs.0 k low high in (else_ k (λ (is : k ≡ d). apart (sym had.0 ∙ ap h.0 is ∙ own.0)) ∙ had.0, had.1)), theirs.1)) in (
      owner,
      h.1,
      each_more (Fits owner s.words) vs (first_alone v) old ((λ k low high. let is : k ≡ d = omega arith in (ap owner is ∙ handed_here d (length vs) h.0, ap (λ (j : ℕ). get_or s.words j 0) is ∙ own.1)), mine.1),
    )

-- a new seat owns no word
pub admits : (size seat : ℕ) (v : Look) → Splits (Counted size) seat v v (looker v.seen 0)
admits size seat v s h at =
    let mine = h.2 seat v at in
    let vs : List Look = set s.views seat v in
    (h.0, h.1, each_more (Fits h.0 s.words) vs (looker v.seen 0) (each_set (Fits h.0 s.words) s.views seat v mine (λ j u _ e. h.2 j u e)) ((λ k low high. absurd (omega arith)), mine.1))

-- the view of the other seat, of two that are joined
theirs_was : (views : List Look) (seat : ℕ) (both : Look) (other : ℕ) (w : Look) → ¬ (other ≡ seat) → get_elem? (set views seat both) other ≡ some w → get_elem? views other ≡ some w
theirs_was views seat both other w two there = ⊎_elim (λ here. absurd (two here.0)) (λ apart. apart.1) (at_set views seat other both w there)

-- a seat takes in what another has seen
pub judges : (size seat : ℕ) (v : Look) (other : ℕ) (w : Look) → Joins (Counted size) seat v other w (look v.owned w.seen v.loads) (looker [] 0)
judges size seat v other w s h at two there =
    let both : Look = look v.owned w.seen v.loads in
    let Fit : ℕ → Look → Type 0 = Fits h.0 s.words in
    let theirs = h.2 other w (theirs_was s.views seat both other w two there) in
    let old : Each Fit (set s.views seat both) = each_set Fit s.views seat both ((h.2 seat v at).0, theirs.1) (λ j u _ e. h.2 j u e) in
    (h.0, h.1, each_set Fit (set s.views seat both) other (looker [] 0) ((λ k low high. absurd (omega arith)), λ k. omega arith) (λ j u _ e. old j u e))

-- a seat ends
pub joins : (size seat : ℕ) (v : Look) (other : ℕ) (w : Look) → Joins (Counted size) seat v other w v (looker [] 0)
joins size seat v other w s h at two there =
    let Fit : ℕ → Look → Type 0 = Fits h.0 s.words in
    let old : Each Fit (set s.views seat v) = each_set Fit s.views seat v (h.2 seat v at) (λ j u _ e. h.2 j u e) in
    (h.0, h.1, each_set Fit (set s.views seat v) other (looker [] 0) ((λ k low high. absurd (omega arith)), λ k. omega arith) (λ j u _ e. old j u e))

-- all that one seat owns is another's
passed : ℕ → ℕ → (ℕ → ℕ) → ℕ → ℕ
passed from to owner k = cond (eqb (owner k) from) to (owner k)

passed_here : (from to : ℕ) (owner : ℕ → ℕ) (k : ℕ) → owner k ≡ from → passed from to owner k ≡ to
unfolding passed
passed_here from to owner k is = let P : Bool → Type 0 = λ b. cond b to (owner k) ≡ to in subst P (sym (eq-eqb (owner k) from is)) refl

passed_else : (from to : ℕ) (owner : ℕ → ℕ) (k : ℕ) → owner k ≢ from → passed from to owner k ≡ owner k
unfolding passed
passed_else from to owner k apart = let P : Bool → Type 0 = λ b. cond b to (owner k) ≡ owner k in subst P (sym (ne_eqb (owner k) from apart)) refl

-- a seat takes in what another owns
pub owns : (size seat : ℕ) (v : Look) (other : ℕ) (w : Look) → Joins (Counted size) seat v other w (look w.owned v.seen v.loads) (looker [] 0)
owns size seat v other w s h at two there =
    let both : Look = look w.owned v.seen v.loads in
    let theirs = h.2 other w (theirs_was s.views seat both other w two there) in
    let owner : ℕ → ℕ = passed other seat h.0 in
    let Others : ℕ → Look → Type 0 = λ j u. j ≢ other → Fits owner s.words j u in
    let old : Each Others (set s.views seat both) =
    each_set Others s.views seat both
    (λ _. ((λ k low high. let had = theirs.0 k low high in (passed_here other seat h.0 k had.0, had.1)), (h.2 seat v at).1))
    (λ j u _ e apart.
    let fit = h.2 j u e in
    ((λ k low high. let had = fit.0 k low high in (passed_else other seat h.0 k (λ (is : h.0 k ≡ other). apart (sym had.0 ∙ is)) ∙ had.0, had.1)), fit.1)) in
    (owner, h.1, each_set (Fits owner s.words) (set s.views seat both) other (looker [] 0) ((λ k low high. absurd (omega arith)), λ k. omega arith) (λ j u apart e. old j u e apart))
