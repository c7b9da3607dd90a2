use Rattle.std.proofs.Common.{◌≡◌, length}
use Rattle.fed_event.specs.EventIds.{ids_left}
use Rattle.fed_auth.specs.AuthEvents.{events_left}
use Rattle.fed_auth.proofs.auth_events.AuthEventsIterator.next.Given as goal

-- what is passed over is not stored
abbrev pub invariant-loop-id : goal.invariant-loop-id
invariant-loop-id l = events_left l.self ≡ events_left l.initial.self

abbrev pub decreases-loop-id : goal.decreases-loop-id
decreases-loop-id l = length (ids_left l.self.ids)
