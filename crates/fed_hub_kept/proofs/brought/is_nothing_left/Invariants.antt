use Rattle.std.proofs.Common.{◌≡◌, [], All, take}
use Rattle.fed_hub_kept.specs.Received.{received}
use Rattle.fed_hub_kept.proofs.brought.is_nothing_left.Given as goal

-- the rooms so far
abbrev pub invariant-loop-inputs : goal.invariant-loop-inputs
invariant-loop-inputs l = All (λ inputs. received inputs.now ≡ []) (take l.inputs-index l.left)
