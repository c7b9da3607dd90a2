use Rattle.std.proofs.Common.{◌≡◌, ◌<◌, ℕ, eqb, None, length, drop}
use Rattle.std.specs.List.{slice_index_or, position_from}
use Rattle.fed_resolve.proofs.mainline.indices.Given as goal

-- the first index in what is done
abbrev pub invariant-loop-index : goal.invariant-loop-index
invariant-loop-index l = record {
  long : length l.indices.items ≡ l.count;
  each : (place : ℕ) → place < l.count → slice_index_or l.indices.items place None ≡ position_from (λ p. eqb p place) l.index (drop l.index l.line);
}
