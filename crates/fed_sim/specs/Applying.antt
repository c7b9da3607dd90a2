-- What becomes of a server that gives one of its rooms the first event in front of it.
use Rattle.std.specs.Prelude.{◌≡◌, ℕ, List, [], ◌∷◌, Some, None, set, slice_get}
use Rattle.fed_event.specs.Checked.{CheckedEvent}
use Rattle.fed_room_contract.specs.declared.applying.Applied.{Applied}
use Rattle.fed_room_contract.specs.Applying.{IsApplied, IsStopped}
use Rattle.fed_room_contract.specs.Room.{RoomState}
use Rattle.fed_room.specs.Room.{room_rules}
use Rattle.fed_dest.specs.List.{place_of}
use Rattle.fed_sim.specs.declared.outcome.Outcome.{Outcome}
use Rattle.fed_sim.specs.declared.outcome.Outcome.TheVariants as outcome
use Rattle.fed_sim.specs.Server.{ServerState}

-- the server with this room at a place, and these events in front of it
abbrev pub with_room : ServerState → ℕ → RoomState → List CheckedEvent → ServerState
with_room s place room queue = record {
  own = s.own;
  name = s.name;
  rooms = set s.rooms place room;
  arrivals = set s.arrivals place queue;
  journal = s.journal;
  ways = s.ways;
  inbox = s.inbox;
}

-- the room at a place, and the first event in front of it with those behind it
pub record IsNext (place : ℕ) (s : ServerState) (room : RoomState) (event : CheckedEvent) (later : List CheckedEvent) : Type 0 where
  pub room_is : slice_get s.rooms place ≡ Some room
  pub event_is : slice_get s.arrivals place ≡ Some (event ∷ later)

-- What a server answers, and what it is then.
pub data IsAppliedAt (place : ℕ) (old : ServerState) : Outcome → ServerState → Type 0 where
  no_room : slice_get old.rooms place ≡ None → IsAppliedAt place old outcome.NothingApplied old
  nothing : slice_get old.arrivals place ≡ Some [] → IsAppliedAt place old outcome.NothingApplied old
  arrived : (room after : RoomState) (event : CheckedEvent) (later : List CheckedEvent) (told : Applied) → IsNext place old room event later
      → IsApplied room_rules room event told after → IsAppliedAt place old (outcome.Applied told.receipt told.more) (with_room old place after later)

-- What a server is when memory ran out: as it was, or the event came to the room, which has stored some of those that waited.
pub data IsAppliedInPart (place : ℕ) (old : ServerState) : ServerState → Type 0 where
  same : IsAppliedInPart place old old
  in_part : (room after : RoomState) (event : CheckedEvent) (later : List CheckedEvent) → IsNext place old room event later
      → IsStopped room_rules room event after → IsAppliedInPart place old (with_room old place after later)

-- The same, where the room is named by its id. `known` are the ids of the rooms.
pub data IsGivenTo (known : List (List ℕ)) (id : List ℕ) (old : ServerState) : Outcome → ServerState → Type 0 where
  unknown_room : place_of known id ≡ None → IsGivenTo known id old outcome.NothingApplied old
  known_room : (told : Outcome) (new : ServerState) (place : ℕ) → place_of known id ≡ Some place → IsAppliedAt place old told new → IsGivenTo known id old told new

pub record IsGivenInPart (known : List (List ℕ)) (id : List ℕ) (old new : ServerState) : Type 0 where
  pub place : ℕ
  pub place_is : place_of known id ≡ Some place
  pub in_part : IsAppliedInPart place old new
