-- Sets of places as marks and as lists, and the power events of the full conflicted set.
use Rattle.std.proofs.Common.{◌≡◌, ◌<◌, ◌+◌, ◌⊎◌, inl, inr, ℕ, zero, suc, List, [], ◌∷◌, ◌++◌, Bool, true, false, not, ◌&&◌, ◌||◌, cond, filter, length, refl, sym, ap, ◌∙◌, arith}
use Rattle.std.specs.List.{list_any}
use Rattle.std.proofs.lemmas.Bool.{cases_eq}
use Rattle.std.proofs.lemmas.List.{get_or_append_left}
use Rattle.std.proofs.lemmas.List.Elements.{filter-append}
use Rattle.std.proofs.Math.Seq.{get_or-append_seam}
use Rattle.fed_room_contract.specs.declared.graph.Stored.{Stored}
use Rattle.fed_room_contract.specs.State.{StateMap}
use Rattle.fed_resolve.specs.Chain.{places_below, members, is_in_chain, is_in_chains}
use Rattle.fed_resolve.specs.ChainParts.{is_marked}
use Rattle.fed_resolve.specs.Marks.{AreMarks}
use Rattle.fed_resolve.specs.Conflict.{is_full_conflicted}
use Rattle.fed_resolve.specs.PowerOrder.{is_power_place}
use Rattle.fed_resolve.specs.Resolution.{is_power, is_other, is_below_power}

-- tests that agree on the places below have the same of them
pub filter-below : (f g : ℕ → Bool) (n : ℕ) → ((p : ℕ) → p < n → f p ≡ g p) → filter f (places_below n) ≡ filter g (places_below n)
filter-below f g zero same = refl
filter-below f g (suc n) same =
    filter-append f (places_below n) (n ∷ []) ∙ ap (λ ps. ps ++ cond (f n) (n ∷ []) []) (filter-below f g n (λ p h. same p (omega arith)))
    ∙ ap (λ b. filter g (places_below n) ++ cond b (n ∷ []) []) (same n (omega arith)) ∙ sym (filter-append g (places_below n) (n ∷ []))

-- the places so far, with the next
pub filter-next : (f : ℕ → Bool) (n : ℕ) → filter f (places_below (suc n)) ≡ filter f (places_below n) ++ cond (f n) (n ∷ []) []
filter-next f n = filter-append f (places_below n) (n ∷ [])

-- the members of a set, by its marks
pub marked-members : (events : List Stored) (test : ℕ → Bool) (marks : List Bool) → AreMarks (length events) test marks → filter (is_marked marks) (places_below (length marks)) ≡ members events test
marked-members events test marks are =
    ap (λ n. filter (is_marked marks) (places_below n)) are.long ∙ filter-below (is_marked marks) test (length events) are.each

any-filter : (f g h : ℕ → Bool) (xs : List ℕ) → list_any h (filter (λ p. f p && g p) xs) ≡ list_any (λ p. g p && h p) (filter f xs)
any-filter f g h [] = refl
any-filter f g h (x ∷ xs) = by (any-filter f g h xs) (f x) (g x) refl
  where
    by : list_any h (filter (λ p. f p && g p) xs) ≡ list_any (λ p. g p && h p) (filter f xs) → (a b : Bool) → g x ≡ b
        → list_any h (cond (a && b) (x ∷ filter (λ p. f p && g p) xs) (filter (λ p. f p && g p) xs)) ≡ list_any (λ p. g p && h p) (cond a (x ∷ filter f xs) (filter f xs))
    by rest true true e = ap (λ b. h x || b) rest ∙ ap (λ b. (b && h x) || list_any (λ p. g p && h p) (filter f xs)) (sym e)
    by rest true false e = rest ∙ ap (λ b. (b && h x) || list_any (λ p. g p && h p) (filter f xs)) (sym e)
    by rest false b e = rest

turned : (c p b : Bool) → ((b || (c && p)) && c) ≡ (c && (p || b))
turned true true true = refl
turned true true false = refl
turned true false true = refl
turned true false false = refl
turned false p true = refl
turned false p false = refl

module _ (events : List Stored) (states : List StateMap) (set : List Bool) (are : AreMarks (length events) (is_full_conflicted events states) set) where
  abbrev power_in : ℕ → Bool
  power_in place = is_marked set place && is_power_place events place

  -- the chains of the power events of the set
  chains-power : (q : ℕ) → is_in_chains events (members events power_in) q ≡ is_below_power events states q
  chains-power q =
      ap (λ ps. is_in_chains events ps q) (filter-below power_in (λ p. is_full_conflicted events states p && is_power_place events p) (length events) (λ p h. ap (λ b. b && is_power_place events p) (are.each p h)))
      ∙ any-filter (is_full_conflicted events states) (is_power_place events) (λ p. is_in_chain events p q) (places_below (length events))

  pub power-marks : (power : List Bool) (places : List ℕ) (chains both marks : List Bool)
      → AreMarks (length events) power_in power
      → places ≡ members events power_in
      → AreMarks (length events) (is_in_chains events places) chains
      → AreMarks (length power) (λ p. is_marked chains p || is_marked power p) both
      → AreMarks (length set) (λ p. is_marked both p && is_marked set p) marks
      → AreMarks (length events) (is_power events states) marks
  power-marks power places chains both marks is_power_marked listed walked joined kept = record {
    long = kept.long ∙ are.long;
    each = λ q below.
        let long = are.long in
        let power_long = is_power_marked.long in
        kept.each q (omega arith) ∙ ap (λ b. b && is_marked set q) (joined.each q (omega arith))
        ∙ ap (λ b. (b || is_marked power q) && is_marked set q) (walked.each q below ∙ ap (λ ps. is_in_chains events ps q) listed ∙ chains-power q)
        ∙ ap (λ b. (is_below_power events states q || b) && is_marked set q) (is_power_marked.each q below)
        ∙ turned (is_marked set q) (is_power_place events q) (is_below_power events states q)
        ∙ ap (λ b. b && (is_power_place events q || is_below_power events states q)) (are.each q below);
  }

  pub other-marks : (power marks : List Bool) → AreMarks (length events) (is_power events states) power → AreMarks (length power) (λ p. is_marked set p && not (is_marked power p)) marks → AreMarks (length events) (is_other events states) marks
  other-marks power marks is_power_marked taken = record {
    long = taken.long ∙ is_power_marked.long;
    each = λ q below.
        let power_long = is_power_marked.long in
        taken.each q (omega arith) ∙ ap (λ b. b && not (is_marked power q)) (are.each q below)
        ∙ ap (λ b. is_full_conflicted events states q && not b) (is_power_marked.each q below);
  }

-- one more mark is pushed
pub marks-pushed : (marks new : List Bool) (b : Bool) (i : ℕ) (test : ℕ → Bool) → length marks ≡ i → ((q : ℕ) → q < i → is_marked marks q ≡ test q) → b ≡ test i → new ≡ marks ++ b ∷ [] → (q : ℕ) → q < i + 1 → is_marked new q ≡ test q
marks-pushed marks new b i test long each last grown q below = ap (λ ms. is_marked ms q) grown ∙ by (cases_eq q i)
  where
    by : (q ≡ i) ⊎ (q ≡ i → ⊥) → is_marked (marks ++ b ∷ []) q ≡ test q
    by (inl e) = ap (is_marked (marks ++ b ∷ [])) (e ∙ sym long) ∙ get_or-append_seam marks b [] false ∙ last ∙ ap test (sym e)
    by (inr n) = get_or_append_left marks (b ∷ []) false q (omega (arith, n)) ∙ each q (omega (arith, n))
