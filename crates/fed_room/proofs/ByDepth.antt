-- Ids in the order of their depth.
use Rattle.std.proofs.Common.{◌≡◌, ◌+◌, ℕ, ℤ, zero, suc, pos, negsuc, ◌≤ℤ◌, ◌<ℤ◌, ◌+ℤ◌, ◌-◌, ◌^◌, List, [], ◌∷◌, Bool, true, false, not, true≢false, get_or, take, Ordering, Less, Equal, Greater, if◌then◌else◌, refl, sym, ap, ◌∙◌, subst, arith}
use Rattle.std.specs.Int.{int_min}
use Rattle.std.specs.List.{position_or_len}
use Rattle.std.specs.List.Sorted.{IsPermutation, IsSorted}
use Rattle.std.specs.Cmp.{IsTotalOrder, int_ranks}
use Rattle.std.specs.FinMap.{IsAntisymmetric, nat_cmp-IsAntisymmetric, slice_cmp-IsAntisymmetric}
use Rattle.std.specs.Ordering.{MatchOrdering, is_lt, ordering_then, ordering_reverse, int_cmp, nat_cmp}
use Rattle.std.specs.Cmp.Lexicographic.{slice_cmp, nat_list_cmp_total}
use Rattle.std.proofs.lemmas.Cmp.{then_total, on_total, back_total, int_cmp_total}
use Rattle.std.proofs.lemmas.Int.{ints, clamps}
use Rattle.std.proofs.lemmas.List.Elements.{All-contains_itself}
use Rattle.std.proofs.lemmas.List.MinMax.{ranks_by}
use Rattle.std.proofs.lemmas.List.Sorted.{IsPermutation-refl, IsPermutation-sym, IsPermutation-trans, IsPermutation-cons, IsPermutation-insert, All-permutation, Contains-permutation, length_permutation, sorted_far, sum_by-IsPermutation}
use Rattle.fed_room_contract.specs.declared.graph.Stored.{Stored}
use Rattle.fed_room_contract.specs.Room.{extremities_of}
use Rattle.fed_room.specs.Laws.{AreByDepth, ArePrevEvents, IsDeepest, IsDepthAfter}
use Rattle.fed_room.specs.Links.{depth_at, tip_cmp, with_tip, by_depth, prev_events_for, next_depth, depth_after}
use Rattle.fed_room.proofs.Made.{InRange}
use Rattle.fed_room.proofs.OneOrder.{sorted-one}
use Rattle.fed_room.proofs.Tips.{tip-inserted}

module _ (events : List Stored) where
  -- ---- the same ids

  same-ids : (ids : List (List ℕ)) → IsPermutation ids (by_depth events ids)
  same-ids [] = IsPermutation-refl []
  same-ids (id ∷ ids) =
      IsPermutation-trans (id ∷ ids) (id ∷ by_depth events ids) (with_tip events id (by_depth events ids))
      (IsPermutation-cons id ids (by_depth events ids) (same-ids ids))
      (subst (IsPermutation (id ∷ by_depth events ids)) (sym (tip-inserted events id (by_depth events ids)))
      (IsPermutation-insert (by_depth events ids) (position_or_len (λ other. not (is_lt (tip_cmp events other id))) (by_depth events ids)) id))

  -- ---- in order

  tip_total : IsTotalOrder (tip_cmp events)
  tip_total = then_total (on_total (depth_at events) (back_total int_cmp_total)) nat_list_cmp_total

  abbrev before : List ℕ → List ℕ → Bool
  before one other = is_lt (tip_cmp events one other)

  reversed : (o : Ordering) → is_lt o ≡ true → is_lt (ordering_reverse o) ≡ false
  reversed Less h = refl
  reversed Equal h = absurd (true≢false (sym h))
  reversed Greater h = absurd (true≢false (sym h))

  not_back : (one other : List ℕ) → before one other ≡ true → before other one ≡ false
  not_back one other h = ap is_lt (tip_total.antisymm other one) ∙ reversed (tip_cmp events one other) h

  -- the first of some ids is not before an id
  abbrev FirstNotBefore : List (List ℕ) → List ℕ → Type 0
  FirstNotBefore [] id = Unit {0}
  FirstNotBefore (other ∷ others) id = before other id ≡ false

  abbrev InOrder : List (List ℕ) → Type 0
  InOrder [] = Unit {0}
  InOrder (id ∷ ids) = FirstNotBefore ids id × InOrder ids

  tip-not_before : (id other : List ℕ) (others : List (List ℕ)) → before other id ≡ true → FirstNotBefore others other → FirstNotBefore (with_tip events id others) other
  tip-not_before id other [] h first = not_back other id h
  tip-not_before id other (next ∷ others) h first = by (before next id)
    where
      by : (b : Bool) → FirstNotBefore (if b then next ∷ with_tip events id others else id ∷ next ∷ others) other
      by true = first
      by false = not_back other id h

  tip-in_order : (id : List ℕ) (ids : List (List ℕ)) → InOrder ids → InOrder (with_tip events id ids)
  tip-in_order id [] h = (tt, tt)
  tip-in_order id (other ∷ others) h = by (before other id) refl (tip-in_order id others h.1)
    where
      by : (b : Bool) → before other id ≡ b → InOrder (with_tip events id others) → InOrder (if b then other ∷ with_tip events id others else id ∷ other ∷ others)
      by true t rest = (tip-not_before id other others t h.0, rest)
      by false f rest = (f, h)

  depth-in_order : (ids : List (List ℕ)) → InOrder (by_depth events ids)
  depth-in_order [] = tt
  depth-in_order (id ∷ ids) = tip-in_order id (by_depth events ids) (depth-in_order ids)

  sorted-by : (ids : List (List ℕ)) → InOrder ids → IsSorted (tip_cmp events) ids
  sorted-by [] h k d low high = absurd (omega arith)
  sorted-by (x ∷ []) h k d low high = absurd (omega arith)
  sorted-by (x ∷ y ∷ ids) h zero d low high = h.0
  sorted-by (x ∷ y ∷ ids) h (suc k) d low high =
      let e : suc k + 1 ≡ suc (k + 1) = omega arith in
      subst (λ n. before (get_or (x ∷ y ∷ ids) n d) (get_or (y ∷ ids) k d) ≡ false) (sym e) (sorted-by (y ∷ ids) h.1 k d (omega arith) (omega arith))

  by_depth-is : (ids : List (List ℕ)) → AreByDepth events ids (by_depth events ids)
  by_depth-is ids = record { same = same-ids ids; in_order = sorted-by (by_depth events ids) (depth-in_order ids) }

  pub prev_events-are : ArePrevEvents events (prev_events_for events)
  unfolding prev_events_for
  prev_events-are = record { sorted = by_depth events (extremities_of events); by_depth = by_depth-is (extremities_of events); first = refl }

  -- ---- the greatest depth

  no_deeper : (one other : List ℕ) → before other one ≡ false → depth_at events other ≤ℤ depth_at events one
  no_deeper one other h = by (int_cmp (depth_at events one) (depth_at events other)) (int_ranks (depth_at events one) (depth_at events other)) h
    where
      by : (o : Ordering) → MatchOrdering o (depth_at events one <ℤ depth_at events other) (depth_at events one ≡ depth_at events other) (depth_at events other <ℤ depth_at events one)
          → is_lt (ordering_then o (slice_cmp nat_cmp other one)) ≡ false → depth_at events other ≤ℤ depth_at events one
      by Less ranks t = absurd (true≢false t)
      by Equal ranks t = omega (arith, ints)
      by Greater ranks t = omega (arith, ints)

  first-deepest : (ids sorted : List (List ℕ)) (deepest : List ℕ) → AreByDepth events ids (deepest ∷ sorted) → IsDeepest events ids deepest
  first-deepest ids sorted deepest by = record {
    among = Contains-permutation (deepest ∷ sorted) ids deepest back (All-contains_itself (deepest ∷ sorted) 0 deepest (omega arith));
    greatest =
        All-permutation (λ id. depth_at events id ≤ℤ depth_at events deepest) (deepest ∷ sorted) ids back
        (λ k d inside. no_deeper deepest (get_or (deepest ∷ sorted) k d) (sorted_far before (ranks_by tip_total (λ id. id)) (deepest ∷ sorted) by.in_order 0 k d (omega arith) inside));
  }
    where
      back : IsPermutation (deepest ∷ sorted) ids
      back = IsPermutation-sym ids (deepest ∷ sorted) by.same

  depth-by : (ids sorted : List (List ℕ)) → AreByDepth events ids sorted → IsDepthAfter events ids (depth_after events (take 20 sorted))
  depth-by [] [] by = refl
  depth-by [] (deepest ∷ sorted) by = absurd (let long = length_permutation [] (deepest ∷ sorted) by.same in omega arith)
  depth-by (id ∷ ids) [] by = absurd (let long = length_permutation (id ∷ ids) [] by.same in omega arith)
  depth-by (id ∷ ids) (deepest ∷ sorted) by = (deepest, (first-deepest (id ∷ ids) sorted deepest by, refl))

  pub depth-is : IsDepthAfter events (extremities_of events) (depth_after events (prev_events_for events))
  unfolding prev_events_for
  depth-is = depth-by (extremities_of events) (by_depth events (extremities_of events)) (by_depth-is (extremities_of events))

  -- ---- one order

  tip_same : IsAntisymmetric (tip_cmp events)
  tip_same one other h = slice_cmp-IsAntisymmetric nat_cmp-IsAntisymmetric one other (second (int_cmp (depth_at events other) (depth_at events one)) _ h)
    where
      second : (o p : Ordering) → ordering_then o p ≡ Equal → p ≡ Equal
      second Less p is = cc
      second Equal p is = is
      second Greater p is = cc

  pub by_depth-one : (ids sorted other : List (List ℕ)) → AreByDepth events ids sorted → AreByDepth events ids other → sorted ≡ other
  by_depth-one ids sorted other p q =
      sorted-one (tip_cmp events) tip_total tip_same sorted other
      (λ f. sum_by-IsPermutation f ids sorted p.same ∙ sym (sum_by-IsPermutation f ids other q.same)) p.in_order q.in_order

  pub prev_events-one : (ids other : List (List ℕ)) → ArePrevEvents events ids → ArePrevEvents events other → ids ≡ other
  prev_events-one ids other p q = p.first ∙ ap (take 20) (by_depth-one (extremities_of events) p.sorted q.sorted p.by_depth q.by_depth) ∙ sym q.first

-- ---- the numbers of an event

next-in_range : (depth : ℤ) → InRange (next_depth depth)
next-in_range depth = by (next_depth depth) (omega (arith, ints, clamps))
  where
    by : (d : ℤ) → d ≤ℤ pos 9007199254740991 → InRange d
    by (pos n) h = omega (arith, ints, h)
    by (negsuc n) h = tt

pub depth-in_range : (events : List Stored) → InRange (depth_after events (prev_events_for events))
depth-in_range events = by (prev_events_for events)
  where
    by : (ids : List (List ℕ)) → InRange (depth_after events ids)
    by [] = omega arith
    by (id ∷ ids) = next-in_range (depth_at events id)

pub one_more : (depth : ℤ) → negsuc (2 ^ 53 - 2) ≤ℤ depth → next_depth depth ≡ int_min (depth +ℤ pos 1) (pos (2 ^ 53 - 1))
one_more depth low = omega (arith, ints, clamps)
