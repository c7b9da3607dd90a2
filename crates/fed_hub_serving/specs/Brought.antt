-- What a history of requests brings for the rooms of a server (Matrix, Server-Server API, "PDUs"), and how much of it went over their wires.
use Rattle.std.specs.Prelude.{◌≤◌, ℕ, List, ◌++◌, Option, Some, None, take, drop, length}
use Rattle.fed_event.specs.Checked.{CheckedEvent}
use Rattle.fed_inbox.specs.History.{Point, brought}
use Rattle.fed_inbox.specs.Queues.{for_place}
use Rattle.fed_hub_serving.specs.declared.end_place.EndPlace.{EndPlace}

abbrev pub end_place : ℕ → ℕ → EndPlace
end_place points events = record { points = points; events = events }

-- what was brought before a place: all by the first requests, and so many of the events that the next ones brought
abbrev pub brought_before : List Point → EndPlace → List CheckedEvent
brought_before points place = brought (take place.points points) ++ take place.events (brought (drop place.points points))

-- up to where a wire ended, if it has
abbrev pub brought_until : List Point → Option EndPlace → List CheckedEvent
brought_until points None = brought points
brought_until points (Some place) = brought_before points place

-- what went over the wire of the room at place k among the ids `known`
abbrev pub sent_to : List (List ℕ) → ℕ → List Point → Option EndPlace → List CheckedEvent
sent_to known k points ended = for_place known k (brought_until points ended)

-- a place in what was brought
pub record IsWithin (points : List Point) (place : EndPlace) : Type 0 where
  pub behind : place.points ≤ length points
  pub within : place.events ≤ length (brought (drop place.points points))
