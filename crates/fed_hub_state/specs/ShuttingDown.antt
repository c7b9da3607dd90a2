-- How a journal that sends is shut down: the outboxes for all other servers that are open are closed, each by a step of its own, and nothing is
-- offered from then on. That is this project's own.
use Rattle.std.specs.Prelude.{◌≡◌, ◌+◌, ◌^◌, ◌++◌, ◌∷◌, [], ◌==◌, ◌&&◌, not, nat_le, filter, ℕ, List, Bool, true, false, length, Result, Ok, Err}
use Rattle.std.specs.List.{range_with_len}
use Rattle.fed_journal.specs.declared.entry.Cause.{Cause}
use Rattle.fed_journal.specs.declared.entry.Entry.{Entry}
use Rattle.fed_journal.specs.declared.fault.JournalFault.{JournalFault}
use Rattle.fed_journal.specs.declared.fault.JournalFault.TheVariants.{Memory, Limit}
use Rattle.fed_journal.specs.Journal.{is_closed}
use Rattle.fed_journal.specs.Offering.{IsClosing, is_closed_now}
use Rattle.fed_hub_state.specs.declared.full_wire.FullWire.{FullWire}
use Rattle.fed_hub_state.specs.declared.sending_journal.CloseFault.{CloseFault}
use Rattle.fed_hub_state.specs.declared.sending_journal.CloseFault.TheVariants as close
use Rattle.fed_hub_state.specs.SendingJournal.{SendingState}

-- the outbox for another server than the own one is open
abbrev pub is_other_open : ℕ → List Entry → ℕ → Bool
is_other_open own entries d = not (d == own) && not (is_closed entries d)

-- those of the first so many servers, in their order
abbrev pub others_open : ℕ → ℕ → List Entry → List ℕ
others_open count own entries = filter (is_other_open own entries) (range_with_len 0 count)

-- a journal has a place for so many more entries
abbrev pub has_places : List Entry → ℕ → Bool
has_places entries more = nat_le (length entries + more) (2 ^ 53)

-- why a journal makes no room for so many: it has no place for them, or memory ran out
abbrev pub HasNoPlaces : List Entry → ℕ → JournalFault → Type 0
HasNoPlaces entries more Limit = has_places entries more ≡ false
HasNoPlaces entries more Memory = has_places entries more ≡ true

-- the outboxes for these servers are closed in turn, each for some cause
pub data AreClosedInTurn (before : List Entry) : List ℕ → List Entry → Type 0 where
  none : AreClosedInTurn before [] before
  one_more : (dests : List ℕ) (d : ℕ) (cause : Cause) (between after : List Entry) → AreClosedInTurn before dests between → IsClosing d cause between is_closed_now after
      → AreClosedInTurn before (dests ++ d ∷ []) after

-- It was shut down before; or it has no place for the closings, or memory ran out, or the wire to one of those open was found to have no room,
-- and it is as it was; or the outboxes are closed and it is shut down now.
pub data ShutsDown (count own : ℕ) (old : SendingState) : Result (Unit {0}) CloseFault → SendingState → Type 0 where
  before : old.is_shut ≡ true → ShutsDown count own old (Ok tt) old
  no_place : old.is_shut ≡ false → has_places old.entries (length (others_open count own old.entries)) ≡ false → ShutsDown count own old (Err close.Limit) old
  no_memory : old.is_shut ≡ false → has_places old.entries (length (others_open count own old.entries)) ≡ true → ShutsDown count own old (Err close.Memory) old
  full : (full : FullWire) → old.is_shut ≡ false → has_places old.entries (length (others_open count own old.entries)) ≡ true → is_other_open own old.entries full.dest ≡ true
      → ShutsDown count own old (Err (close.Full full)) old
  now : (entries : List Entry) → old.is_shut ≡ false → AreClosedInTurn old.entries (others_open count own old.entries) entries
      → ShutsDown count own old (Ok tt) (record { entries = entries; is_shut = true })
