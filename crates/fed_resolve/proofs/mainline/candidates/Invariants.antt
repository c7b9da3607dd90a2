use Rattle.std.proofs.Common.{◌≡◌, ℕ, Option, All, length, map, take}
use Rattle.fed_resolve.specs.OrderParts.{candidate_place}
use Rattle.fed_resolve.specs.Mainline.{mainline}
use Rattle.fed_resolve.specs.RankParts.{AreIndices, IsMainlineCandidate}
use Rattle.fed_resolve.proofs.mainline.candidates.Given as goal

-- the candidates of the places so far
abbrev pub invariant-loop-place : goal.invariant-loop-place
invariant-loop-place l = record {
  places : map candidate_place l.candidates.items ≡ take l.place-index l.set;
  each : (levels : Option ℕ) → AreIndices (length l.graph.stored) (mainline l.graph.stored levels) l.indices → All (IsMainlineCandidate l.graph.stored (mainline l.graph.stored levels)) l.candidates.items;
}
