use Rattle.std.proofs.Common.{◌≡◌, ◌↔◌, drop}
use Rattle.std.specs.Slice.Iter.{iter_rest}
use Rattle.fed_hub_kept.specs.Received.{received}
use Rattle.fed_hub_kept.proofs.received.are_received.Given as goal

-- what is left decides
abbrev pub invariant-loop-input : goal.invariant-loop-input
invariant-loop-input l = (received l.inputs ≡ l.given) ↔ (received (drop l.input-index l.inputs) ≡ iter_rest l.left)
