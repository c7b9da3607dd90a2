use Rattle.std.proofs.Common.{◌≡◌, ◌<◌, ◌-◌, ℕ, Option, length}
use Rattle.std.specs.Option.{IfSome}
use Rattle.fed_resolve.specs.Mainline.{least_index, mainline, mainline_from, position_of}
use Rattle.fed_resolve.specs.RankParts.{AreIndices}
use Rattle.fed_resolve.proofs.mainline.position.Given as goal

-- what is left of the walk decides
abbrev pub invariant-loop : goal.invariant-loop
invariant-loop l = record {
  rest : (levels : Option ℕ) → AreIndices (length l.graph.stored) (mainline l.graph.stored levels) l.indices → least_index (mainline l.graph.stored levels) (mainline_from l.graph.stored (length l.graph.stored - l.counter) l.next) ≡ position_of l.graph.stored (mainline l.graph.stored levels) l.place;
  next : IfSome l.next (λ place. place < length l.graph.stored);
}
