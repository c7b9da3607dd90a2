use Rattle.std.proofs.Common.{◌≡◌, drop, filter, option_map}
use Rattle.fed_resolve.specs.ChainParts.{is_marked}
use Rattle.fed_resolve.specs.OrderParts.{may_follow, first_candidate, AreListedFronts}
use Rattle.fed_resolve.proofs.order.next_place.Given as goal

-- the first of those from here on
abbrev pub invariant-loop-index : goal.invariant-loop-index
invariant-loop-index g l = record {
  first : option_map (λ one. one.now) l.first ≡ first_candidate g.R.Ord.cmp (filter (may_follow (is_marked l.is_listed)) (drop l.index l.candidates));
  fronts : AreListedFronts l.is_listed l.candidates l.fronts;
}
