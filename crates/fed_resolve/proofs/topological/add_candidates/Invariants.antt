use Rattle.std.proofs.Common.{◌≡◌, ◌++◌, All, map, take}
use Rattle.fed_resolve.specs.OrderParts.{candidate_place}
use Rattle.fed_resolve.specs.RankParts.{IsPowerCandidate}
use Rattle.fed_resolve.proofs.topological.add_candidates.Given as goal

-- the candidates of the places so far
abbrev pub invariant-loop-index : goal.invariant-loop-index
invariant-loop-index l = record {
  places : map candidate_place l.candidates.items ≡ map candidate_place l.fn.candidates.items ++ take l.index l.places;
  each : All (IsPowerCandidate l.graph.stored l.set) l.candidates.items;
}
