-- The lanes of a journal, one for each destination, as some of them change.
use Rattle.std.proofs.Common.{arith, ◌≡◌, ◌≢◌, ◌⊎◌, inl, inr, ℕ, zero, suc, ◌+◌, ◌<◌, ◌==◌, Bool, true, false, ◌||◌, if◌then◌else◌, List, [], ◌∷◌, length, take, set, get_or, Option, Some, None, refl, sym, ap, ◌∙◌, subst}
use Rattle.std.specs.List.{slice_get}
use Rattle.std.specs.Option.{option_map}
use Rattle.std.specs.List.Sorted.{IsStrictlyIncreasing}
use Rattle.std.proofs.lemmas.List.{take_more, get_or-take, get_or_default, length-take-le}
use Rattle.std.proofs.lemmas.List.Folds.{list_any-append, list_any_none}
use Rattle.std.proofs.lemmas.List.Kept.{AllPairs-from_increasing}
use Rattle.std.proofs.lemmas.Option.{slice_get-get_or, slice_get_within}
use Rattle.std.proofs.lemmas.Bool.{cases_eq, eq-eqb, ne_eqb}
use Rattle.fed_dest.specs.ServerSet.{is_among}
use Rattle.fed_journal.specs.Lane.{LaneState, AreChanged}

set_here : (xs : List LaneState) (i : ℕ) (y : LaneState) → i < length xs → slice_get (set xs i y) i ≡ Some y
set_here [] i y h = absurd (omega arith)
set_here (x ∷ xs) zero y h = refl
set_here (x ∷ xs) (suc i) y h = set_here xs i y (omega arith)

set_there : (xs : List LaneState) (i d : ℕ) (y : LaneState) → d ≢ i → slice_get (set xs i y) d ≡ slice_get xs d
set_there [] i d y ne = refl
set_there (x ∷ xs) zero zero y ne = absurd (ne refl)
set_there (x ∷ xs) zero (suc d) y ne = refl
set_there (x ∷ xs) (suc i) zero y ne = refl
set_there (x ∷ xs) (suc i) (suc d) y ne = set_there xs i d y (λ e. ne (ap suc e))

abbrev pub chosen_change : (LaneState → LaneState) → Bool → LaneState → LaneState
chosen_change f b = if b then f else (λ lane. lane)

module _ (f : LaneState → LaneState) where
  -- nothing is chosen
  pub none_changed : (p : ℕ → Bool) (xs : List LaneState) → ((d : ℕ) → p d ≡ false) → AreChanged p f xs xs
  none_changed p xs none d = unchanged (slice_get xs d) ∙ ap (λ b. option_map (chosen_change f b) (slice_get xs d)) (sym (none d))
    where
      unchanged : (o : Option LaneState) → o ≡ option_map (λ lane. lane) o
      unchanged None = refl
      unchanged (Some x) = refl

  -- what was not chosen is as it was
  pub not_changed : (p : ℕ → Bool) (old xs : List LaneState) (i : ℕ) (x : LaneState) → AreChanged p f old xs → p i ≡ false → slice_get xs i ≡ Some x → slice_get old i ≡ Some x
  not_changed p old xs i x are not_yet here = same (slice_get old i) (sym (are i ∙ ap (λ b. option_map (chosen_change f b) (slice_get old i)) not_yet) ∙ here)
    where
      same : (o : Option LaneState) → option_map (λ lane. lane) o ≡ Some x → o ≡ Some x
      same None e = absurd (cc)
      same (Some y) e = e

  -- one more is chosen
  pub one_more_changed : (p q : ℕ → Bool) (old xs : List LaneState) (i : ℕ) (x y : LaneState) → AreChanged p f old xs → slice_get xs i ≡ Some x → y ≡ f x → p i ≡ false → q i ≡ true → ((d : ℕ) → d ≢ i → q d ≡ p d)
      → AreChanged q f old (set xs i y)
  one_more_changed p q old xs i x y are here gives not_yet now others d = by (cases_eq d i)
    where
      by : (d ≡ i) ⊎ (d ≢ i) → slice_get (set xs i y) d ≡ option_map (chosen_change f (q d)) (slice_get old d)
      by (inl e) =
          subst (λ k. slice_get (set xs i y) k ≡ option_map (chosen_change f (q k)) (slice_get old k)) (sym e)
          (set_here xs i y (slice_get_within xs i x here) ∙ ap Some gives
          ∙ sym (ap (λ b. option_map (chosen_change f b) (slice_get old i)) now ∙ ap (option_map f) (not_changed p old xs i x are not_yet here)))
      by (inr ne) = set_there xs i d y ne ∙ are d ∙ ap (λ b. option_map (chosen_change f b) (slice_get old d)) (sym (others d ne))

  -- the same places are chosen
  pub same_changed : (p q : ℕ → Bool) (old xs : List LaneState) → ((d : ℕ) → q d ≡ p d) → AreChanged p f old xs → AreChanged q f old xs
  same_changed p q old xs same are d = are d ∙ ap (λ b. option_map (chosen_change f b) (slice_get old d)) (sym (same d))

-- a destination is not among those that come before it
pub not_yet_among : (dests : List ℕ) (i d : ℕ) → IsStrictlyIncreasing dests → i < length dests → d ≡ get_or dests i 0 → is_among (take i dests) d ≡ false
not_yet_among dests i d rising within is =
    list_any_none (λ other. other == d) (take i dests)
    (λ k e below. let under : k < i = omega (arith, length-take-le i dests (omega arith)) in
    let less = AllPairs-from_increasing dests rising k i 0 under within in
    ne_eqb _ _ (λ same. let read = get_or-take i dests k e under in let at = get_or_default dests k e 0 (omega arith) in omega (arith, same ∙ is, sym read ∙ same, at)))

or_false : (b : Bool) → (b || false) ≡ b
or_false true = refl
or_false false = refl

or_true : (b : Bool) → (b || true) ≡ true
or_true true = refl
or_true false = refl

pub now_among : (dests : List ℕ) (i d : ℕ) → i < length dests → is_among (take (i + 1) dests) d ≡ (is_among (take i dests) d || (get_or dests i 0 == d))
now_among dests i d within = ap (λ xs. is_among xs d) (take_more dests i 0 within) ∙ list_any-append (λ other. other == d) (take i dests) (get_or dests i 0 ∷ []) ∙ ap (λ b. is_among (take i dests) d || b) (or_false (get_or dests i 0 == d))

-- the destination at i, with its lane, is the next one
module _ (f : LaneState → LaneState) (dests : List ℕ) (old xs : List LaneState) (i dest place : ℕ) (e : LaneState) (rising : IsStrictlyIncreasing dests) (within : i < length dests) (item : dest ≡ get_or dests i dest) (same : place ≡ dest) (inside : place < length xs) (are : AreChanged (is_among (take i dests)) f old xs) where
  listed : place ≡ get_or dests i 0
  listed = same ∙ item ∙ get_or_default dests i dest 0 within

  abbrev pub x : LaneState
  x = get_or xs place e

  here : slice_get xs place ≡ Some x
  here = slice_get-get_or xs place e inside

  pub not_yet_changed : slice_get old place ≡ Some x
  not_yet_changed = not_changed f (is_among (take i dests)) old xs place x are (not_yet_among dests i place rising within listed) here

  pub next_changed : (y : LaneState) → y ≡ f x → AreChanged (is_among (take (i + 1) dests)) f old (set xs place y)
  next_changed y gives =
      one_more_changed f (is_among (take i dests)) (is_among (take (i + 1) dests)) old xs place x y are here gives (not_yet_among dests i place rising within listed)
      (now_among dests i place within ∙ ap (λ b. is_among (take i dests) place || b) (eq-eqb _ _ (sym listed)) ∙ or_true (is_among (take i dests) place))
      (λ d ne. now_among dests i d within ∙ ap (λ b. is_among (take i dests) d || b) (ne_eqb _ _ (λ e. ne (sym e ∙ sym listed))) ∙ or_false (is_among (take i dests) d))

-- one lane alone is changed
pub changed_at : (f : LaneState → LaneState) (old : List LaneState) (place dest : ℕ) (x y : LaneState) → place ≡ dest → slice_get old place ≡ Some x → y ≡ f x → AreChanged (λ d. dest == d) f old (set old place y)
changed_at f old place dest x y same here gives =
    one_more_changed f (λ _. false) (λ d. dest == d) old old place x y (none_changed f (λ _. false) old (λ _. refl)) here gives refl (eq-eqb _ _ (sym same)) (λ d ne. ne_eqb _ _ (λ e. ne (sym e ∙ sym same)))
