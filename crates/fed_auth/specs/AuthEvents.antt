-- The events that an `AuthEvents` has left.
use Rattle.std.specs.Prelude.{List}
use Rattle.fed_event.specs.EventIds.{ids_left}
use Rattle.fed_room_contract.specs.declared.graph.Stored.{Stored}
use Rattle.fed_auth.specs.declared.auth_events.AuthEvents.{AuthEvents}
use Rattle.fed_auth.specs.AuthState.{stored_of}

unfoldable pub events_left : AuthEvents → List Stored
events_left events = stored_of events.graph.now.stored (ids_left events.ids)
