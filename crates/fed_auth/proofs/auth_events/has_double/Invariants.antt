use Rattle.std.proofs.Common.{◌≡◌, length}
use Rattle.fed_auth.specs.AuthState.{has_double}
use Rattle.fed_auth.specs.AuthEvents.{events_left}
use Rattle.fed_auth.proofs.auth_events.has_double.Given as goal

-- what is left decides
abbrev pub invariant-loop-one : goal.invariant-loop-one
invariant-loop-one l = has_double (events_left l.fn.events) ≡ has_double (events_left l.others)

abbrev pub decreases-loop-one : goal.decreases-loop-one
decreases-loop-one l = length (events_left l.others)
