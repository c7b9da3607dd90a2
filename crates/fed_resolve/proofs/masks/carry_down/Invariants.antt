use Rattle.std.proofs.Common.{◌≡◌, ℕ, length}
use Rattle.fed_resolve.specs.ChainParts.{AreClosedFrom}
use Rattle.fed_resolve.specs.MaskParts.{bit_marks}
use Rattle.fed_resolve.proofs.masks.carry_down.Given as goal

-- the places down to here are done
abbrev pub invariant-loop-place : goal.invariant-loop-place
invariant-loop-place l = record {
  long : length l.masks ≡ length l.graph.stored;
  each : (bit : ℕ) → AreClosedFrom l.graph.stored l.place (bit_marks bit l.fn.masks) (bit_marks bit l.masks);
}
