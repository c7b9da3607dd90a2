-- The events of the journal beside the rooms in which they are stored (Matrix, Server-Server API, "PDUs": an event goes to the other servers that are
-- joined in the state before it).
use Rattle.std.specs.Prelude.{◌≡◌, ℕ, List, Option, Some, All, find, bytes_eq, ⊤}
use Rattle.fed_event.specs.Checked.{CheckedEvent}
use Rattle.fed_event.specs.Fields.{room_id_of}
use Rattle.fed_room_contract.specs.declared.graph.Stored.{Stored}
use Rattle.fed_room_contract.specs.Graph.{stored_at}
use Rattle.fed_room_contract.specs.Room.{Rules, event_id}
use Rattle.fed_dest.specs.Joined.{AreDestinations}
use Rattle.fed_journal.specs.declared.entry.Entry.{Entry}
use Rattle.fed_journal.specs.declared.entry.Entry.TheVariants.{Event, Edu, Close}
use Rattle.fed_room.specs.Room.{room_of, room_rules}
use Rattle.fed_hub_state.specs.KeptRoom.{KeptState, id_of}

-- an event of its id is stored, and these are its destinations by the stored events and the state before it
pub record IsSentAsStored (rules : Rules) (events : List Stored) (servers : List (List ℕ)) (own : ℕ) (event : CheckedEvent) (dests : List ℕ) : Type 0 where
  pub stored : Stored
  pub found : stored_at events (event_id event) ≡ Some stored
  pub destinations : AreDestinations events (rules.before events stored.event.event) servers own dests

-- the room with an id: the first of these that has it
abbrev pub room_at : List KeptState → List ℕ → Option KeptState
room_at rooms id = find (λ room. bytes_eq (id_of room) id) rooms

-- the event's room is among these; there it is stored, and these are its destinations
pub record IsSentInItsRoom (rooms : List KeptState) (servers : List (List ℕ)) (own : ℕ) (event : CheckedEvent) (dests : List ℕ) : Type 0 where
  pub room : KeptState
  pub found : room_at rooms (room_id_of event.event) ≡ Some room
  pub sent : IsSentAsStored room_rules (room_of room.room).stored servers own event dests

-- where the entry is an event, that is so of it; an EDU and a closing belong to no room
abbrev pub IsEntrySent : List KeptState → List (List ℕ) → ℕ → Entry → Type 0
IsEntrySent rooms servers own (Event event dests) = IsSentInItsRoom rooms servers own event dests
IsEntrySent rooms servers own (Edu edu dests) = ⊤
IsEntrySent rooms servers own (Close dest cause) = ⊤

-- that is so of all events of the journal
abbrev pub AreSentAsStored : List KeptState → List (List ℕ) → ℕ → List Entry → Type 0
AreSentAsStored rooms servers own entries = All (IsEntrySent rooms servers own) entries
