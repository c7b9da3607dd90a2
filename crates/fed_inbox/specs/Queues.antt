-- The queues of events that go from an inbox to its rooms (Server-Server API, "PDUs").
use Rattle.std.specs.Prelude.{ℕ, List, [], ◌∷◌, ◌++◌, ◌+◌, ◌==◌, filter}
use Rattle.std.specs.Str.{bytes_eq}
use Rattle.fed_dest.specs.List.{place_of}
use Rattle.fed_event.specs.Checked.{CheckedEvent}
use Rattle.fed_event.specs.Fields.{room_id_of}
use Rattle.fed_event.specs.Tests.{holds}

-- the events of a room among some
abbrev pub for_room : List ℕ → List CheckedEvent → List CheckedEvent
for_room room events = filter (λ event. bytes_eq (room_id_of event.event) room) events

-- the events of the room at place k among the ids `known`
abbrev pub for_place : List (List ℕ) → ℕ → List CheckedEvent → List CheckedEvent
for_place known k events = filter (λ (event : CheckedEvent). holds (λ place. place == k) (place_of known (room_id_of event.event))) events

-- the queues of the rooms from place k on, each with the events of its room behind it
abbrev pub queues_from : ℕ → List (List ℕ) → List CheckedEvent → List (List CheckedEvent) → List (List CheckedEvent)
queues_from k known events [] = []
queues_from k known events (queue ∷ queues) = (queue ++ for_place known k events) ∷ queues_from (k + 1) known events queues

-- the queues of all rooms, each with the events of its room behind it
abbrev pub queues_after : List (List ℕ) → List CheckedEvent → List (List CheckedEvent) → List (List CheckedEvent)
queues_after known events queues = queues_from 0 known events queues
