use Rattle.std.proofs.Common.{◌≡◌, drop}
use Rattle.fed_hub_kept.specs.Received.{received}
use Rattle.fed_hub_kept.proofs.brought.behind.Given as goal

-- no event came by the inputs so far
abbrev pub invariant-loop-place : goal.invariant-loop-place
invariant-loop-place l = received l.inputs ≡ received (drop l.place l.inputs)
