-- Marks that are set.
use Rattle.std.proofs.Common.{◌≡◌, ◌<◌, ◌+◌, ℕ, List, [], ◌∷◌, Bool, true, false, ◌||◌, eqb, Option, None, Some, length, get_or, set, take, drop, ◌++◌, sym, ap, ◌∙◌, ◌⊎◌, inl, inr, refl, arith}
use Rattle.std.specs.List.{list_any, cons_option, slice_index_or}
use Rattle.std.proofs.lemmas.Bool.{cases_eq, eq-eqb, ne_eqb, or_left}
use Rattle.std.proofs.Math.Seq.{take-append_seam}
use Rattle.std.proofs.lemmas.List.{get_or-set_same, get_or-set_other, length-set}
use Rattle.std.proofs.lemmas.List.Folds.{list_any_more}
use Rattle.fed_resolve.specs.ChainParts.{or_among}
use Rattle.fed_resolve.specs.Marks.{AreMarks}

-- one more mark
pub one_set : (marks : List Bool) (p q : ℕ) → p < length marks → slice_index_or (set marks p true) q false ≡ (eqb p q || slice_index_or marks q false)
one_set marks p q below = by (cases_eq p q)
  where
    by : (p ≡ q) ⊎ (p ≡ q → ⊥) → slice_index_or (set marks p true) q false ≡ (eqb p q || slice_index_or marks q false)
    by (inl e) =
        ap (λ k. slice_index_or (set marks p true) k false) (sym e) ∙ get_or-set_same marks p true false below
        ∙ sym (or_left (eqb p q) (slice_index_or marks q false) (eq-eqb p q e))
    by (inr n) = get_or-set_other marks p q true false (λ e. n (sym e)) ∙ sym (ap (λ b. b || slice_index_or marks q false) (ne_eqb p q n))

turned : (a b c : Bool) → ((a || b) || c) ≡ (b || (a || c))
turned true true c = refl
turned true false c = refl
turned false b c = refl

-- the mark of the first of some places is set: the others are left
pub next_set : (places : List ℕ) (marks : List Bool) (p q : ℕ) → p < length marks → or_among places (set marks p true) q ≡ or_among (p ∷ places) marks q
next_set places marks p q below =
    ap (λ b. b || list_any (λ a. eqb a q) places) (one_set marks p q below) ∙ turned (eqb p q) (slice_index_or marks q false) (list_any (λ a. eqb a q) places)

-- the same of a place that may be missing
pub next_some : (o : Option ℕ) (places : List ℕ) (marks : List Bool) (p q : ℕ) → o ≡ Some p → p < length marks
    → or_among places (set marks p true) q ≡ or_among (cons_option o places) marks q
next_some o places marks p q e below = next_set places marks p q below ∙ ap (λ x. or_among (cons_option x places) marks q) (sym e)

pub next_none : (o : Option ℕ) (places : List ℕ) (marks : List Bool) (q : ℕ) → o ≡ None → or_among places marks q ≡ or_among (cons_option o places) marks q
next_none o places marks q e = ap (λ x. or_among (cons_option x places) marks q) (sym e)

or_none : (a : Bool) → (a || false) ≡ a
or_none true = refl
or_none false = refl

-- nothing is left
pub none_left : (marks : List Bool) (q : ℕ) → or_among [] marks q ≡ slice_index_or marks q false
none_left marks q = or_none (slice_index_or marks q false)

-- a list that was written over another one of its length
pub written : {X : Type 0} (n : ℕ) (new old : List X) → length new ≡ n → take n (new ++ drop (length new) old) ≡ new
written n new old long = ap (λ k. take k (new ++ drop (length new) old)) (sym long) ∙ take-append_seam new (drop (length new) old)

moved : (a b c : Bool) → (c || (a || b)) ≡ (a || (b || c))
moved true b true = refl
moved true b false = refl
moved false true true = refl
moved false true false = refl
moved false false true = refl
moved false false false = refl

-- one more of some places
pub among-more : (count : ℕ) (places : List ℕ) (first marks : List Bool) (i : ℕ) → i < length places → get_or places i 0 < count → AreMarks count (or_among (take i places) first) marks
    → AreMarks count (or_among (take (i + 1) places) first) (set marks (get_or places i 0) true)
among-more count places first marks i inside below are = record {
  long = length-set marks (get_or places i 0) true ∙ are.long;
  each = λ q within.
      one_set marks (get_or places i 0) q (omega (arith, are.long))
      ∙ ap (λ b. eqb (get_or places i 0) q || b) (are.each q within)
      ∙ moved (slice_index_or first q false) (list_any (λ p. eqb p q) (take i places)) (eqb (get_or places i 0) q)
      ∙ ap (λ b. slice_index_or first q false || b) (sym (list_any_more (λ p. eqb p q) places i 0 inside));
}
