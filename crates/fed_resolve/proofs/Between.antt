-- What the auth chains of several groups of events, found some groups at a time, have not in common.
use Rattle.std.proofs.Common.{◌≡◌, ◌<◌, ◌-◌, ◌^◌, ◌++◌, ◌∷◌, [], ℕ, List, Bool, not, ◌||◌, ◌&&◌, eqb, Option, None, Some, length, get_or, refl, sym, ap, ◌∙◌, arith}
use Rattle.std.specs.List.{list_any, list_all, slice_get}
use Rattle.std.proofs.Math.Bool.{or_assoc, and_assoc}
use Rattle.std.proofs.lemmas.List.Folds.{list_any-append, list_all-append}
use Rattle.fed_event.specs.Tests.{holds}
use Rattle.fed_room_contract.specs.declared.graph.Stored.{Stored}
use Rattle.fed_resolve.specs.Chain.{is_in_chains}
use Rattle.fed_resolve.specs.ChainParts.{is_marked}
use Rattle.fed_resolve.specs.KeptParts.{is_between}
use Rattle.fed_resolve.specs.Marks.{AreMarks}
use Rattle.fed_resolve.specs.MaskParts.{has_bit, group_in, AreChainMasks}
use Rattle.fed_resolve.proofs.MaskWords.{some_bit, every_bit, or_false, and_true}

module _ (events : List Stored) (given : ℕ → List ℕ) where
  abbrev pub is_in_some : List ℕ → ℕ → Bool
  is_in_some xs q = list_any (λ x. is_in_chains events (given x) q) xs

  abbrev pub is_in_every : List ℕ → ℕ → Bool
  is_in_every xs q = list_all (λ x. is_in_chains events (given x) q) xs

  module _ (turn : List ℕ) (masks : List ℕ) (are : AreChainMasks events given turn 0 masks) where
    bits : (q : ℕ) → q < length events → (bit : ℕ) → has_bit bit (get_or masks q 0) ≡ holds (λ x. is_in_chains events (given x) q) (slice_get turn bit)
    bits q below bit = are.each bit q (omega arith) below ∙ by (slice_get turn bit)
      where
        by : (o : Option ℕ) → is_in_chains events (group_in given o) q ≡ holds (λ x. is_in_chains events (given x) q) o
        by None = refl
        by (Some x) = refl

    some-turn : (q : ℕ) → q < length events → not (eqb (get_or masks q 0) 0) ≡ is_in_some turn q
    some-turn q below = some_bit (λ x. is_in_chains events (given x) q) turn (get_or masks q 0) (bits q below)

    every-turn : (word : ℕ) → word ≡ 2 ^ length turn - 1 → (q : ℕ) → q < length events → eqb (get_or masks q 0) word ≡ is_in_every turn q
    every-turn word ones q below = every_bit (λ x. is_in_chains events (given x) q) turn (get_or masks q 0) (bits q below) word ones

    module _ (all left others : List ℕ) (parts : left ≡ turn ++ others) (before after : List Bool) where
      pub some-left : ((q : ℕ) → q < length events → (is_marked before q || is_in_some left q) ≡ is_in_some all q)
          → AreMarks (length masks) (λ q. is_marked before q || not (eqb (get_or masks q 0) 0)) after
          → (q : ℕ) → q < length events → (is_marked after q || is_in_some others q) ≡ is_in_some all q
      some-left so_far more q below =
          let long = are.long in
          ap (λ b. b || is_in_some others q) (more.each q (omega arith) ∙ ap (λ b. is_marked before q || b) (some-turn q below))
          ∙ or_assoc (is_marked before q) (is_in_some turn q) (is_in_some others q)
          ∙ ap (λ b. is_marked before q || b) (sym (list_any-append (λ x. is_in_chains events (given x) q) turn others) ∙ ap (λ ss. is_in_some ss q) (sym parts))
          ∙ so_far q below

      pub every-left : (word : ℕ) → word ≡ 2 ^ length turn - 1 → ((q : ℕ) → q < length events → (is_marked before q && is_in_every left q) ≡ is_in_every all q)
          → AreMarks (length masks) (λ q. is_marked before q && eqb (get_or masks q 0) word) after
          → (q : ℕ) → q < length events → (is_marked after q && is_in_every others q) ≡ is_in_every all q
      every-left word ones so_far more q below =
          let long = are.long in
          ap (λ b. b && is_in_every others q) (more.each q (omega arith) ∙ ap (λ b. is_marked before q && b) (every-turn word ones q below))
          ∙ and_assoc (is_marked before q) (is_in_every turn q) (is_in_every others q)
          ∙ ap (λ b. is_marked before q && b) (sym (list_all-append (λ x. is_in_chains events (given x) q) turn others) ∙ ap (λ ss. is_in_every ss q) (sym parts))
          ∙ so_far q below

  nothing : (xs : List ℕ) → length xs ≡ 0 → xs ≡ []
  nothing [] e = refl
  nothing (x ∷ xs) e = absurd (omega arith)

  -- none is left
  pub none-left : (all left : List ℕ) (some every marks : List Bool) → length left ≡ 0 → length every ≡ length events
      → ((q : ℕ) → q < length events → (is_marked some q || is_in_some left q) ≡ is_in_some all q)
      → ((q : ℕ) → q < length events → (is_marked every q && is_in_every left q) ≡ is_in_every all q)
      → AreMarks (length every) (λ q. is_marked some q && not (is_marked every q)) marks → AreMarks (length events) (is_between events given all) marks
  none-left all left some every marks none long of_some of_every are = record {
    long = are.long ∙ long;
    each = λ q below. are.each q (omega arith) ∙ (λ i. some-is q below i && not (every-is q below i));
  }
    where
      gone : left ≡ []
      gone = nothing left none

      some-is : (q : ℕ) → q < length events → is_marked some q ≡ is_in_some all q
      some-is q below = sym (or_false (is_marked some q)) ∙ ap (λ ss. is_marked some q || is_in_some ss q) (sym gone) ∙ of_some q below

      every-is : (q : ℕ) → q < length events → is_marked every q ≡ is_in_every all q
      every-is q below = sym (and_true (is_marked every q)) ∙ ap (λ ss. is_marked every q && is_in_every ss q) (sym gone) ∙ of_every q below
