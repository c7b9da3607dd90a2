-- What some states of many add to the full auth chains that are found, and how the events of a set are listed turn by turn.
use Rattle.std.proofs.Common.{◌≡◌, ◌<◌, ◌≤◌, ◌-◌, ◌^◌, ◌++◌, ◌∷◌, [], ℕ, List, Bool, not, ◌||◌, ◌&&◌, eqb, All, Option, None, Some, length, get_or, filter, refl, sym, ap, ◌∙◌, arith}
use Rattle.std.specs.List.{slice_get}
use Rattle.std.specs.FinMap as finite
use Rattle.std.proofs.Math.Bool.{or_assoc, and_assoc}
use Rattle.std.proofs.lemmas.List.Folds.{list_any-append, list_all-append}
use Rattle.std.proofs.lemmas.Option.{slice_get-get_or}
use Rattle.fed_event.specs.Tests.{holds}
use Rattle.fed_room_contract.specs.declared.graph.Stored.{Stored}
use Rattle.fed_room_contract.specs.State.{StateMap}
use Rattle.fed_resolve.specs.Chain.{is_in_chain, is_in_chains, is_in_full_chain}
use Rattle.fed_resolve.specs.ChainParts.{is_marked}
use Rattle.fed_resolve.specs.Conflict.{is_in_difference}
use Rattle.fed_resolve.specs.ConflictParts.{is_in_some, is_in_every, places_of_state}
use Rattle.fed_resolve.specs.Marks.{AreMarks}
use Rattle.fed_resolve.specs.MaskParts.{has_bit, group_in, itself_alone, AreChainMasks, AreSetMasks}
use Rattle.fed_resolve.proofs.Agreement.{filter-agree}
use Rattle.fed_resolve.proofs.MaskWords.{some_bit, every_bit, or_false, and_true}
use Rattle.fed_resolve.proofs.Unconflicteds.{full-chain}

module _ (events : List Stored) (turn : List StateMap) (masks : List ℕ) (are : AreChainMasks events (places_of_state events) turn 0 masks) where
  bits : (q : ℕ) → q < length events → (bit : ℕ) → has_bit bit (get_or masks q 0) ≡ holds (λ state. is_in_full_chain events state q) (slice_get turn bit)
  bits q below bit = are.each bit q (omega arith) below ∙ by (slice_get turn bit)
    where
      by : (o : Option StateMap) → is_in_chains events (group_in (places_of_state events) o) q ≡ holds (λ state. is_in_full_chain events state q) o
      by None = refl
      by (Some state) = full-chain events state q (places_of_state events state) (finite.entries state) refl refl

  some-turn : (q : ℕ) → q < length events → not (eqb (get_or masks q 0) 0) ≡ is_in_some events turn q
  some-turn q below = some_bit (λ state. is_in_full_chain events state q) turn (get_or masks q 0) (bits q below)

  every-turn : (word : ℕ) → word ≡ 2 ^ length turn - 1 → (q : ℕ) → q < length events → eqb (get_or masks q 0) word ≡ is_in_every events turn q
  every-turn word ones q below = every_bit (λ state. is_in_full_chain events state q) turn (get_or masks q 0) (bits q below) word ones

  module _ (states left others : List StateMap) (parts : left ≡ turn ++ others) (before after : List Bool) where
    pub some-left : ((q : ℕ) → q < length events → (is_marked before q || is_in_some events left q) ≡ is_in_some events states q)
        → AreMarks (length masks) (λ q. is_marked before q || not (eqb (get_or masks q 0) 0)) after
        → (q : ℕ) → q < length events → (is_marked after q || is_in_some events others q) ≡ is_in_some events states q
    some-left so_far more q below =
        let long = are.long in
        ap (λ b. b || is_in_some events others q) (more.each q (omega arith) ∙ ap (λ b. is_marked before q || b) (some-turn q below))
        ∙ or_assoc (is_marked before q) (is_in_some events turn q) (is_in_some events others q)
        ∙ ap (λ b. is_marked before q || b) (sym (list_any-append (λ state. is_in_full_chain events state q) turn others) ∙ ap (λ ss. is_in_some events ss q) (sym parts))
        ∙ so_far q below

    pub every-left : (word : ℕ) → word ≡ 2 ^ length turn - 1 → ((q : ℕ) → q < length events → (is_marked before q && is_in_every events left q) ≡ is_in_every events states q)
        → AreMarks (length masks) (λ q. is_marked before q && eqb (get_or masks q 0) word) after
        → (q : ℕ) → q < length events → (is_marked after q && is_in_every events others q) ≡ is_in_every events states q
    every-left word ones so_far more q below =
        let long = are.long in
        ap (λ b. b && is_in_every events others q) (more.each q (omega arith) ∙ ap (λ b. is_marked before q && b) (every-turn word ones q below))
        ∙ and_assoc (is_marked before q) (is_in_every events turn q) (is_in_every events others q)
        ∙ ap (λ b. is_marked before q && b) (sym (list_all-append (λ state. is_in_full_chain events state q) turn others) ∙ ap (λ ss. is_in_every events ss q) (sym parts))
        ∙ so_far q below

nothing : (xs : List StateMap) → length xs ≡ 0 → xs ≡ []
nothing [] e = refl
nothing (x ∷ xs) e = absurd (omega arith)

-- no state is left
pub none-left : (events : List Stored) (states left : List StateMap) (some every marks : List Bool) → length left ≡ 0 → length every ≡ length events
    → ((q : ℕ) → q < length events → (is_marked some q || is_in_some events left q) ≡ is_in_some events states q)
    → ((q : ℕ) → q < length events → (is_marked every q && is_in_every events left q) ≡ is_in_every events states q)
    → AreMarks (length every) (λ q. is_marked some q && not (is_marked every q)) marks → AreMarks (length events) (is_in_difference events states) marks
none-left events states left some every marks none long of_some of_every are = record {
  long = are.long ∙ long;
  each = λ q below. are.each q (omega arith) ∙ (λ i. some-is q below i && not (every-is q below i));
}
  where
    gone : left ≡ []
    gone = nothing left none

    some-is : (q : ℕ) → q < length events → is_marked some q ≡ is_in_some events states q
    some-is q below = sym (or_false (is_marked some q)) ∙ ap (λ ss. is_marked some q || is_in_some events ss q) (sym gone) ∙ of_some q below

    every-is : (q : ℕ) → q < length events → is_marked every q ≡ is_in_every events states q
    every-is q below = sym (and_true (is_marked every q)) ∙ ap (λ ss. is_marked every q && is_in_every events ss q) (sym gone) ∙ of_every q below

-- ---- the places of a set

-- from the words of the chains down to the least place of the set
pub set-masks : (events : List Stored) (places set masks : List ℕ) (to : ℕ) → All (λ q. to ≤ q) set → All (λ q. q < length events) set → AreChainMasks events itself_alone places to masks → AreSetMasks events places set masks
set-masks events places set masks to least within are = record {
  long = are.long;
  each = λ bit inside k d below.
      let q = get_or set k d in
      are.each bit q (least k d below) (within k d below)
      ∙ ap (λ o. is_in_chains events (group_in itself_alone o) q) (slice_get-get_or places bit 0 inside)
      ∙ or_false (is_in_chain events (get_or places bit 0) q);
}

-- what of the set has the bit of an event is in its chain
pub set-chain : (events : List Stored) (places set masks : List ℕ) → AreSetMasks events places set masks → (bit place : ℕ) → bit < length places → place ≡ get_or places bit 0
    → filter (λ other. has_bit bit (get_or masks other 0)) set ≡ filter (is_in_chain events place) set
set-chain events places set masks are bit place inside here =
    filter-agree (λ other. has_bit bit (get_or masks other 0)) (is_in_chain events (get_or places bit 0)) set (are.each bit inside)
    ∙ ap (λ p. filter (is_in_chain events p) set) (sym here)
