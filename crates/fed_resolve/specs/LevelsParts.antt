-- What the auth events of an event say of power levels, for the clauses of private functions.
use Rattle.std.specs.Prelude.{ℕ, List, [], Bool, Option, Some, if◌then◌else◌, find, option_map, option_and_then, codes, bytes_eq, slice_get}
use Rattle.fed_event.specs.Event.{Event}
use Rattle.fed_event.specs.Tests.{holds}
use Rattle.fed_event.specs.Fields.{content_of, kind_of}
use Rattle.fed_room_contract.specs.declared.graph.Stored.{Stored}
use Rattle.fed_auth.specs.AuthState.{stands_at}
use Rattle.fed_auth.specs.Levels.{LevelsGiven}
use Rattle.fed_auth.specs.StateView.{creator_in}
use Rattle.fed_resolve.specs.Chain.{auths_at}
use Rattle.fed_resolve.specs.PowerOrder.{event_of}

-- the event at a place stands at a type and a state key
abbrev pub stands_there : List Stored → List ℕ → List ℕ → ℕ → Bool
stands_there events kind key place = holds (stands_at kind key) (slice_get events place)

-- the first auth event of the event at a place that does
abbrev pub auth_by : List Stored → ℕ → List ℕ → List ℕ → Option Event
auth_by events place kind key = option_map event_of (option_and_then (slice_get events) (find (stands_there events kind key) (auths_at events place)))

-- of the event at a place, which is this one
abbrev pub create_by : List Stored → ℕ → Event → Option Event
create_by events place event = if bytes_eq (kind_of event) (codes "m.room.create") then Some event else auth_by events place (codes "m.room.create") []

abbrev pub levels_by : List Stored → ℕ → Event → LevelsGiven
levels_by events place event = record {
  content = option_map content_of (auth_by events place (codes "m.room.power_levels") []);
  creator = option_and_then creator_in (create_by events place event);
}
