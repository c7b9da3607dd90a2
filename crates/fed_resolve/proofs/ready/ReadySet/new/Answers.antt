use Rattle.std.proofs.Common.{◌≡◌, ◌+◌, ◌||◌, ℕ, false, nat_lt, not, eqb, arith}
use Rattle.std.proofs.lemmas.Bool.Decides.{nat_tests}
use Rattle.std.proofs.lemmas.Option.{slice_get_within}
use Rattle.fed_resolve.proofs.ReadySets.{begun}
use Rattle.fed_resolve.proofs.ready.ReadySet.new.Goals as goal

below-none : (i : ℕ) → not (nat_lt i 0) ≡ false → ⊥
below-none i e = grind (arith, nat_tests, e)

pub loop-index-init : goal.loop-index-init
loop-index-init g c = record {
  kept = begun c.args.is_listed.now c.args.candidates.now _ c.new.ensures.empty c.in_ok-empty_lists.ensures.long c.in_ok-empty_lists.ensures.empty (c.in_ok-vec.ensures.items_if_clones_equal (λ y e. e));
  held = λ index one here none. absurd (below-none index none);
}

-- of those from here on one is looked at
before-next : (i index : ℕ) → (eqb index i || not (nat_lt i (index + 1))) ≡ false → not (nat_lt i index) ≡ false
before-next i index e = grind (arith, nat_tests, e)

pub loop-index-preserved : goal.loop-index-preserved
loop-index-preserved g c = record {
  kept = c.in_ok-add.ensures.kept;
  held = c.in_ok-add.ensures.held _ (λ i one here kept unmarked. c.loop-index.invariant.held i one here (before-next i c.loop-index.index kept) unmarked);
}

pub returns : goal.returns
returns g c = record {
  kept = c.loop-index.invariant.kept;
  held = λ index one here kept unmarked.
      let less = slice_get_within c.args.candidates.now index one here in
      let end = c.loop-index-test.false in
      c.loop-index.invariant.held index one here (grind (arith, nat_tests, less, end)) unmarked;
}
