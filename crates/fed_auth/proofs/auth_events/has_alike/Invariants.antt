use Rattle.std.proofs.Common.{◌≡◌}
use Rattle.std.specs.List.{list_any}
use Rattle.fed_auth.specs.AuthState.{are_alike}
use Rattle.fed_auth.specs.AuthEvents.{events_left}
use Rattle.fed_auth.proofs.auth_events.has_alike.Given as goal

-- what is left decides
abbrev pub invariant-loop-other : goal.invariant-loop-other
invariant-loop-other l = list_any (are_alike l.one) (events_left l.fn.events) ≡ list_any (are_alike l.one) (events_left l.other-iterator)
