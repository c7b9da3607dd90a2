-- What a hub did, once all of its threads have returned, beside what these hold.
use Rattle.std.specs.Prelude.{◌≡◌, ◌≤◌, ℕ, List, Some, All, length, map, slice_get, slice_index}
use Rattle.fed_hub_kept.specs.Answered.{AreAnswered}
use Rattle.fed_hub_kept.specs.Brought.{AreBrought}
use Rattle.fed_hub_kept.specs.OfJournal.{AreOfJournal}
use Rattle.fed_hub_kept.specs.Received.{IsGiven}
use Rattle.fed_hub_kept.specs.Sent.{AreSentAsStored}
use Rattle.fed_hub_state.specs.KeptRoom.{KeptState, id_of}
use Rattle.fed_hub_told.specs.AsTold.{IsAsTold}
use Rattle.fed_inbox.specs.History.{Point}
use Rattle.fed_journal.specs.declared.entry.Entry.{Entry}
use Rattle.fed_outbox.specs.Outbox.{OutboxState}
use Rattle.fed_wires.specs.Seat.{Seated}
use Rattle.fed_hub.specs.declared.report.Report.{Report}
use Rattle.fed_hub.specs.declared.tokens.Tokens.{Tokens}
use Rattle.fed_hub.specs.declared.unlocked.Unlocked.{Unlocked}

-- the outbox at a place is for the server of that place
abbrev pub AreInPlace : List OutboxState → Type 0
AreInPlace outboxes = (place : ℕ) (o : OutboxState) → slice_get outboxes place ≡ Some o → o.dest ≡ place

-- how many events are settled in each outbox
abbrev pub settled_counts : List OutboxState → List ℕ
settled_counts outboxes = map (λ (o : OutboxState). length o.settled) outboxes

-- No reader was shown more than is settled: what it found last for a server is no more than how many events are settled in the outbox of that server.
abbrev pub NoReaderSawMore : List OutboxState → List Seated → Type 0
NoReaderSawMore outboxes readers = All (λ (o : OutboxState). All (λ (s : Seated). slice_index s.seen o.dest ≤ length o.settled) readers) outboxes

-- What a hub keeps under its locks: the entries of its journal, the outboxes and the rooms in the order of their places, and the history of its inbox.
pub record Parts : Type 0 where
  pub entries : List Entry
  pub outboxes : List OutboxState
  pub points : List Point
  pub rooms : List KeptState

-- those that lay under the locks; those in a report
abbrev pub parts_of : {N : Type 0} → Unlocked N → Parts
parts_of {N} unlocked = record { entries = unlocked.journal.entries; outboxes = unlocked.outboxes.items; points = unlocked.inbox.points; rooms = unlocked.rooms.items }

abbrev pub parts_in : {N : Type 0} → Report N → Parts
parts_in {N} report = record { entries = report.journal.entries; outboxes = report.outboxes.items; points = report.inbox.points; rooms = report.rooms.items }

-- What the server with these listed ones and these rooms did fits together, and fits what its threads hold. The rooms are those of its places. The outbox at
-- each place is for the server of that place, and accepted the first of what the journal places for it. Each room was given just what its thread gave. The
-- clients were told of just what the journal has. Each event of the journal is stored in its room, and went to the servers joined in the state before it
-- (Server-Server API, "PDUs"). What came to each room is, in order, the first of what the inbox's history brought for it. And each answer is one point of
-- that history ("Transactions").
pub record IsFitting {N : Type 0} (servers : List (List ℕ)) (own : ℕ) (known : List (List ℕ)) (parts : Parts) (tokens : Tokens N) : Type 0 where
  pub places : map id_of parts.rooms ≡ known
  pub accepted : AreOfJournal parts.entries parts.outboxes
  pub given : All (IsGiven parts.rooms) tokens.rooms.items
  pub told : IsAsTold tokens.clients.items parts.entries
  pub sent : AreSentAsStored parts.rooms servers own parts.entries
  pub brought : AreBrought known parts.points parts.rooms
  pub answered : AreAnswered parts.points tokens.servers.items
