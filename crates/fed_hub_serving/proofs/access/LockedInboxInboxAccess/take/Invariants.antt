use Rattle.std.proofs.Common.{◌≡◌}
use Rattle.fed_hub_serving.proofs.access.LockedInboxInboxAccess.take.Given as goal

-- the request is as it was judged
abbrev pub invariant-loop : goal.invariant-loop
invariant-loop g l = l.judged ≡ l.fn.judged
