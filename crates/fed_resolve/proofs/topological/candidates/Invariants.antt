use Rattle.std.proofs.Common.{◌≡◌, ◌<◌, ◌++◌, All, length, map}
use Rattle.fed_resolve.specs.OrderParts.{candidate_place}
use Rattle.fed_resolve.specs.RankParts.{IsPowerCandidate}
use Rattle.fed_resolve.proofs.topological.candidates.Given as goal

-- the candidates of the places so far, and the places that are left
abbrev pub invariant-loop-left : goal.invariant-loop-left
invariant-loop-left l = record {
  places : map candidate_place l.candidates.items ++ l.left ≡ l.set;
  each : All (IsPowerCandidate l.graph.stored l.set) l.candidates.items;
  within : All (λ place. place < length l.graph.stored) l.left;
}

abbrev pub decreases-loop-left : goal.decreases-loop-left
decreases-loop-left l = length l.left
