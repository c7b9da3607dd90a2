-- What is offered, in a journal and on its way.
use Rattle.std.specs.Prelude.{ℕ, List, length}
use Rattle.fed_journal.specs.declared.entry.Entry.{Entry}
use Rattle.fed_journal.specs.declared.entry.Entry.TheVariants as entry
use Rattle.fed_journal.specs.declared.parcel.Load.{Load}
use Rattle.fed_journal.specs.declared.parcel.Load.TheVariants as load
use Rattle.fed_journal.specs.declared.offered.Offered.{Offered}
use Rattle.fed_journal.specs.declared.offered.Offered.TheVariants.{Event, Edu}
use Rattle.fed_journal.specs.Journal.{events_of, edus_of}

-- the entry of what is offered, what a parcel with it holds, and its number among the events, or among the EDUs, of a journal
abbrev pub entry_of : Offered → List ℕ → Entry
entry_of (Event event) dests = entry.Event event dests
entry_of (Edu edu) dests = entry.Edu edu dests

abbrev pub load_of : Offered → Load
load_of (Event event) = load.Event event
load_of (Edu edu) = load.Edu edu

abbrev pub number_of : Offered → List Entry → ℕ
number_of (Event event) entries = length (events_of entries)
number_of (Edu edu) entries = length (edus_of entries)
