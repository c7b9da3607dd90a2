use Rattle.std.proofs.Common.{◌≡◌}
use Rattle.fed_hub_serving.proofs.access.KeptInboxInboxAccess.take.Given as goal

-- the request is as it was judged, and the inbox as it was
abbrev pub invariant-loop : goal.invariant-loop
invariant-loop g l = (l.judged ≡ l.fn.judged) × (l.self ≡ l.fn.self)
