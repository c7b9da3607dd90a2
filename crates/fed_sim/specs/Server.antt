-- What others see of a server: its rooms, the events in front of each, its journal, the way to each destination, and its inbox.
use Rattle.std.specs.Prelude.{ℕ, List}
use Rattle.fed_event.specs.Checked.{CheckedEvent}
use Rattle.fed_room_contract.specs.Room.{RoomState}
use Rattle.fed_journal.specs.declared.entry.Entry.{Entry}
use Rattle.fed_outbox.specs.Collecting.{Way}
use Rattle.fed_inbox.specs.Inbox.{InboxState}

pub record ServerState : Type 0 where
  -- its place among the servers, and its name
  pub own : ℕ
  pub name : List ℕ
  -- in the order of the setup; and what was taken for each of them that it was not given yet
  pub rooms : List RoomState
  pub arrivals : List (List CheckedEvent)
  pub journal : List Entry
  -- by the places of the destinations
  pub ways : List Way
  pub inbox : InboxState
