use Rattle.std.proofs.Common.{◌≡◌, drop, find}
use Rattle.fed_auth.specs.StateView.{is_at}
use Rattle.fed_auth.proofs.state_view.given_event.Given as goal

-- what is left decides
abbrev pub invariant-loop-event : goal.invariant-loop-event
invariant-loop-event l = find (is_at l.kind l.state_key) l.events ≡ find (is_at l.kind l.state_key) (drop l.event-index l.events)
