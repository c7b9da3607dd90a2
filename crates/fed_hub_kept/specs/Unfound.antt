-- What rooms were given, as far as it is not found yet among the events that were brought.
use Rattle.std.specs.Prelude.{◌≡◌, ◌↔◌, ◌==◌, ◌∷◌, ◌++◌, ℕ, List, Bool, MatchBool, Option, Some, filter, slice_get}
use Rattle.std.specs.Borrow.{Bor}
use Rattle.std.specs.BTreeMap.{BTreeMap, get_by}
use Rattle.std.specs.Cmp.Lexicographic.{slice_cmp}
use Rattle.std.specs.Ordering.{nat_cmp}
use mathlib.Core.List.{IsPrefix}
use Rattle.fed_event.specs.Checked.{CheckedEvent}
use Rattle.fed_event.specs.Fields.{room_id_of}
use Rattle.fed_event.specs.Tests.{holds}
use Rattle.fed_room_contract.specs.declared.input.Input.{Input}
use Rattle.fed_hub_kept.specs.Received.{received}

-- the place that a map has for an id
abbrev pub place_in : BTreeMap (Bor (List ℕ)) ℕ → List ℕ → Option ℕ
place_in places id = get_by (λ key. slice_cmp nat_cmp id key.now) places

-- those of these events whose room is at place k, by the places of the ids
abbrev pub events_for : (List ℕ → Option ℕ) → ℕ → List CheckedEvent → List CheckedEvent
events_for place_at k events = filter (λ (event : CheckedEvent). holds (λ place. place == k) (place_at (room_id_of event.event))) events

-- the events that came to the room at each place, by the inputs that are left of it, are the first of those of these events that are for it
abbrev pub AreFronts : (List ℕ → Option ℕ) → List CheckedEvent → List (List Input) → Type 0
AreFronts place_at events left = (place : ℕ) (inputs : List Input) → slice_get left place ≡ Some inputs → IsPrefix (received inputs) (events_for place_at place events)

-- an event was brought: of a room's inputs these are left then, whatever is brought later
abbrev pub IsBehind : List Input → CheckedEvent → List Input → Type 0
IsBehind inputs event rest = (later : List CheckedEvent) → IsPrefix (received inputs) (event ∷ later) ↔ IsPrefix (received rest) later

-- another one came to the room first, whatever is brought later
abbrev pub IsNotNext : List Input → CheckedEvent → Type 0
IsNotNext inputs event = (later : List CheckedEvent) → ¬ IsPrefix (received inputs) (event ∷ later)

-- Events were brought: what is left then decides, whatever is brought later; or it is told that another one came to a room first.
abbrev pub AreTaken : (List ℕ → Option ℕ) → List CheckedEvent → List (List Input) → Bool → List (List Input) → Type 0
AreTaken place_at events old told new = MatchBool told
    ((later : List CheckedEvent) → AreFronts place_at (events ++ later) old ↔ AreFronts place_at later new)
    ((later : List CheckedEvent) → ¬ AreFronts place_at (events ++ later) old)
