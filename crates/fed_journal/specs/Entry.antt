-- How an entry is stored where a contract keeps one. Nothing else is said of it.
use Rattle.std.specs.Prelude.{◌≡◌, ℕ, List, [], ◌∷◌, ◌==◌, slice_index, if◌then◌else◌, Option, Some, None, refl}
use Rattle.std.specs.Coded.{Coded, code_by, coded×, coded_ℕ, coded_list, coded_option}
use Rattle.serde_json.specs.Data.{Data}
use Rattle.fed_json.specs.Code.{coded_data}
use Rattle.fed_event.specs.Checked.{CheckedEvent, checked_code}
use Rattle.fed_journal.specs.declared.entry.Cause.{Cause}
use Rattle.fed_journal.specs.declared.entry.Cause.TheVariants.{Asked, Lost}
use Rattle.fed_journal.specs.declared.entry.Entry.{Entry}
use Rattle.fed_journal.specs.declared.entry.Entry.TheVariants.{Event, Edu, Close}

-- an event or an EDU, and numbers
abbrev pub EntryParts : Type 0
EntryParts = Option CheckedEvent × (Option Data × List ℕ)

abbrev pub cause_number : Cause → ℕ
cause_number Asked = 0
cause_number Lost = 1

abbrev pub parts_of : Entry → EntryParts
parts_of (Event event dests) = (Some event, (None, dests))
parts_of (Edu edu dests) = (None, (Some edu, dests))
parts_of (Close dest cause) = (None, (None, dest ∷ cause_number cause ∷ []))

abbrev pub close_of : List ℕ → Entry
close_of numbers = Close (slice_index numbers 0) (if slice_index numbers 1 == 0 then Asked else Lost)

abbrev pub entry_of : EntryParts → Entry
entry_of (Some event, (edu, numbers)) = Event event numbers
entry_of (None, (Some edu, numbers)) = Edu edu numbers
entry_of (None, (None, numbers)) = close_of numbers

pub entry_of-parts_of : (e : Entry) → entry_of (parts_of e) ≡ e
entry_of-parts_of (Event event dests) = refl
entry_of-parts_of (Edu edu dests) = refl
entry_of-parts_of (Close dest Asked) = refl
entry_of-parts_of (Close dest Lost) = refl

abbrev pub entry_code : Coded Entry
entry_code = code_by EntryParts (coded× (coded_option checked_code) (coded× (coded_option coded_data) (coded_list coded_ℕ))) parts_of entry_of entry_of-parts_of
