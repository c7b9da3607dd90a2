use Rattle.std.proofs.Common.{◌≡◌}
use Rattle.std.specs.FinMap as finite
use Rattle.fed_auth.specs.AuthState.{with_all}
use Rattle.fed_auth.specs.AuthEvents.{events_left}
use Rattle.fed_auth.proofs.auth_events.state_of.Given as goal

-- what is left completes the state
abbrev pub invariant-loop-auth : goal.invariant-loop-auth
invariant-loop-auth l = with_all finite.empty (events_left l.fn.events) ≡ with_all l.state (events_left l.auth-iterator)
