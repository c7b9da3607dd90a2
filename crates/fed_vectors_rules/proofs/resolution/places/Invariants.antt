use Rattle.std.proofs.Common.{◌<◌, All, length}
use Rattle.fed_vectors_rules.proofs.resolution.places.Given as goal

-- the places so far are in the graph
abbrev pub invariant-loop-item : goal.invariant-loop-item
invariant-loop-item l = record {
  within : All (λ place. place < length l.graph.stored) l.places.items;
}
