-- An outbox beside the journal of its server: it accepted what the journal placed for its destination, as far as it has come.
use Rattle.std.specs.Prelude.{◌≡◌, ℕ, List, ◌++◌, Some, slice_get}
use Rattle.fed_journal.specs.declared.entry.Entry.{Entry}
use Rattle.fed_journal.specs.declared.parcel.Parcel.{Parcel}
use Rattle.fed_journal.specs.Journal.{parcels}
use Rattle.fed_outbox.specs.Outbox.{OutboxState}
use Rattle.fed_outbox.specs.Accepted.{HasAccepted}

-- just these parcels were accepted, and they are the first of those that were ever placed for the destination
pub record IsOfJournal (entries : List Entry) (o : OutboxState) : Type 0 where
  pub front : List Parcel
  pub later : List Parcel
  pub placed : parcels entries o.dest ≡ front ++ later
  pub accepted : HasAccepted o.dest front o

-- the outbox is for the server of its place, and of the journal
pub record IsOfItsPlace (entries : List Entry) (place : ℕ) (o : OutboxState) : Type 0 where
  pub dest : o.dest ≡ place
  pub accepted : IsOfJournal entries o

-- that is so of the outbox at each place
abbrev pub AreOfJournal : List Entry → List OutboxState → Type 0
AreOfJournal entries outboxes = (place : ℕ) (o : OutboxState) → slice_get outboxes place ≡ Some o → IsOfItsPlace entries place o
