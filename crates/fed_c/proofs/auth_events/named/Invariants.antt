use Rattle.std.proofs.Common.{◌≡◌}
use Rattle.fed_event.specs.EventIds.{ids_left}
use Rattle.fed_c.specs.AuthEvents.{named}
use Rattle.fed_c.specs.StoredEventsParts.{with_named}
use Rattle.fed_c.proofs.auth_events.named.Given as goal

-- what is left decides
abbrev pub invariant-loop-id : goal.invariant-loop-id
invariant-loop-id l = named l.given (ids_left l.fn.ids) ≡ with_named l.given l.auth.items (ids_left l.id-iterator)
