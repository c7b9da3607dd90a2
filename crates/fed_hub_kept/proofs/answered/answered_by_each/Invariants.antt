use Rattle.std.proofs.Common.{◌≡◌, map, take}
use Rattle.fed_hub_kept.proofs.answered.answered_by_each.Given as goal

-- what the threads so far answered
abbrev pub invariant-loop-token : goal.invariant-loop-token
invariant-loop-token g l = map (λ answered. answered.now) l.each.items ≡ take l.token-index l.tokens
