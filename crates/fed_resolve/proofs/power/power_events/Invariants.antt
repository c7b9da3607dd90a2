use Rattle.std.proofs.Common.{◌≡◌, ◌<◌, ℕ, ◌&&◌, length}
use Rattle.fed_resolve.specs.ChainParts.{is_marked}
use Rattle.fed_resolve.specs.PowerOrder.{is_power_place}
use Rattle.fed_resolve.proofs.power.power_events.Given as goal

-- the marks of the places so far
abbrev pub invariant-loop-place : goal.invariant-loop-place
invariant-loop-place l = record {
  long : length l.marks.items ≡ l.place;
  each : (q : ℕ) → q < l.place → is_marked l.marks.items q ≡ (is_marked l.set q && is_power_place l.graph.stored q);
}
