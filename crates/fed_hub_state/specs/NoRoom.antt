-- Why a journal has no room for an entry and for so many closings: it has no place for them, or memory ran out.
use Rattle.std.specs.Prelude.{◌≡◌, ℕ, List, true, false}
use Rattle.fed_journal.specs.declared.entry.Entry.{Entry}
use Rattle.fed_journal.specs.declared.fault.JournalFault.{JournalFault}
use Rattle.fed_journal.specs.declared.fault.JournalFault.TheVariants.{Memory, Limit}
use Rattle.fed_journal.specs.Offering.{has_place}

abbrev pub HasNoRoom : List Entry → ℕ → JournalFault → Type 0
HasNoRoom entries closings Limit = has_place entries closings ≡ false
HasNoRoom entries closings Memory = has_place entries closings ≡ true
