-- What a journal that sends tells when the outbox for a destination is to be closed, and what it is then.
use Rattle.std.specs.Prelude.{◌≡◌, ◌∷◌, ◌++◌, [], ℕ, Bool, true, false, Result, Ok, Err}
use Rattle.fed_journal.specs.declared.entry.Cause.{Cause}
use Rattle.fed_journal.specs.declared.entry.Cause.TheVariants.{Asked, Lost}
use Rattle.fed_journal.specs.declared.entry.Entry.TheVariants.{Close}
use Rattle.fed_journal.specs.declared.parcel.Load.TheVariants.{End}
use Rattle.fed_journal.specs.declared.parcel.Parcel.{Parcel}
use Rattle.fed_journal.specs.Journal.{JournalState, is_closed, with_entry}
use Rattle.fed_journal.specs.Offering.{has_place}
use Rattle.fed_journal.specs.Place.{PlaceValue}
use Rattle.fed_wires.specs.SendEnd.{Sender, with_sent, with_returned}
use Rattle.fed_hub_state.specs.declared.full_wire.FullWire.{FullWire}
use Rattle.fed_hub_state.specs.declared.sending_journal.CloseFault.{CloseFault}
use Rattle.fed_hub_state.specs.declared.sending_journal.CloseFault.TheVariants.{Memory, Limit, Full}
use Rattle.fed_hub_state.specs.SendingJournal.{SendingState}

-- It was closed before; or it is open, and the journal has no place for the closing, or memory ran out, or its wire was found to have no room;
-- or it is closed now, as was asked for or since the end came back.
pub data Closes (d : ℕ) (old : SendingState) : Result Bool CloseFault → SendingState → Type 0 where
  before : is_closed old.entries d ≡ true → Closes d old (Ok false) old
  no_place : is_closed old.entries d ≡ false → has_place old.entries 0 ≡ false → Closes d old (Err Limit) old
  no_memory : is_closed old.entries d ≡ false → has_place old.entries 0 ≡ true → Closes d old (Err Memory) old
  full : (full : FullWire) → is_closed old.entries d ≡ false → has_place old.entries 0 ≡ true → full.dest ≡ d → Closes d old (Err (Full full)) old
  now : (cause : Cause) → is_closed old.entries d ≡ false → has_place old.entries 0 ≡ true
      → Closes d old (Ok true) (record { entries = old.entries ++ Close d cause ∷ []; is_shut = old.is_shut })

-- the end is sent to the next place, or comes back
pub data ClosesOpen (place : PlaceValue) (journal : JournalState) (end : Sender Parcel) : JournalState → Sender Parcel → Type 0 where
  asked : ClosesOpen place journal end (with_entry journal (Close place.dest Asked)) (with_sent end (record { place = place; load = End }))
  lost : ClosesOpen place journal end (with_entry journal (Close place.dest Lost)) (with_returned end)
