-- Events on their way to the rooms of a server.
use Rattle.std.specs.Prelude.{◌≡◌, ℕ, List, [], ◌∷◌, map}
use Rattle.fed_dest.specs.List.{place_of}
use Rattle.fed_event.specs.Checked.{CheckedEvent}
use Rattle.fed_event.specs.Fields.{room_id_of}
use Rattle.fed_hub_serving.specs.declared.bound.Bound.{Bound}

-- an event, with the place of its room among the ids `known`
abbrev pub bound_of : List (List ℕ) → CheckedEvent → Bound
bound_of known event = record { room = place_of known (room_id_of event.event); event = event }

abbrev pub event_in : Bound → CheckedEvent
event_in b = b.event

abbrev pub events_in : List Bound → List CheckedEvent
events_in bound = map event_in bound

-- each has the place of its room
abbrev pub AreBound : List (List ℕ) → List Bound → Type 0
AreBound known [] = Unit {0}
AreBound known (b ∷ bound) = (b.room ≡ place_of known (room_id_of b.event.event)) × AreBound known bound
