use Rattle.std.proofs.Common.{◌≡◌, find}
use Rattle.fed_auth.specs.AuthState.{stands_at}
use Rattle.fed_auth.specs.AuthEvents.{events_left}
use Rattle.fed_auth.proofs.auth_events.AuthEvents.first_at.Given as goal

-- what is left decides
abbrev pub invariant-loop-auth : goal.invariant-loop-auth
invariant-loop-auth l = find (stands_at l.kind l.state_key) (events_left l.fn.self) ≡ find (stands_at l.kind l.state_key) (events_left l.auth-iterator)
