-- How the parts of a world that comes of a run fit together: its servers with their inboxes, their ways, and their rooms.
use Rattle.std.specs.Prelude.{◌≡◌, ℕ, List, Some, length, slice_get}
use Rattle.fed_room_contract.specs.Room.{RoomState}
use Rattle.fed_room_contract.specs.Runs.{IsRoom}
use Rattle.fed_room.specs.Room.{room_rules}
use Rattle.fed_journal.specs.Journal.{parcels}
use Rattle.fed_outbox.specs.Collecting.{Way}
use Rattle.fed_outbox.specs.Following.{Follows}
use Rattle.fed_inbox.specs.Rooms.{room_set}
use Rattle.fed_sim.specs.Server.{ServerState}
use Rattle.fed_sim.specs.Ways.{way_to}
use Rattle.fed_sim.specs.World.{WorldState}

-- the server at place k of so many, with rooms of these ids
pub record IsShaped (count : ℕ) (known : List (List ℕ)) (k : ℕ) (s : ServerState) : Type 0 where
  pub own : s.own ≡ k
  pub ways : length s.ways ≡ count
  pub rooms : length s.rooms ≡ length known
  -- its inbox knows just these rooms
  pub inbox : s.inbox.rooms ≡ room_set known

-- there are as many servers as names
pub record HasShape (w : WorldState) : Type 0 where
  pub count : length w.servers ≡ length w.names
  pub servers : (k : ℕ) (s : ServerState) → slice_get w.servers k ≡ Some s → IsShaped (length w.names) w.known k s

pub record HoldsTogether (w : WorldState) : Type 0 where
  pub shape : HasShape w
  -- what the outbox for a destination has accepted, and what waits before it, is what the journal places for it
  pub ways : (k d : ℕ) (s : ServerState) (way : Way) → slice_get w.servers k ≡ Some s → way_to s d ≡ Some way → Follows d (parcels s.journal d) way
  -- what is stored in a room is a graph, and has the verdicts of the rules
  pub rooms : (k r : ℕ) (s : ServerState) (room : RoomState) → slice_get w.servers k ≡ Some s → slice_get s.rooms r ≡ Some room → IsRoom room_rules room
