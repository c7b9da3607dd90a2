-- The journal of a server: the events and ephemeral data units that it has offered, each with its destinations, and the closings of
-- outboxes, in order. What is addressed to a destination, and which parcels were placed for it, are read from that list.
use Rattle.std.specs.Prelude.{ℕ, ◌+◌, ◌-◌, max, Bool, true, false, not, ◌&&◌, ◌==◌, if◌then◌else◌, List, [], ◌∷◌, ◌++◌, length, Option, Some, None, refl}
use Rattle.std.specs.List.{list_any, filter_map}
use Rattle.std.specs.Coded.{Coded, code_by, coded×, coded_ℕ, coded_list}
use Rattle.serde_json.specs.Data.{Data}
use Rattle.fed_event.specs.Checked.{CheckedEvent}
use Rattle.fed_dest.specs.ServerSet.{is_among}
use Rattle.fed_journal.specs.declared.entry.Cause.{Cause}
use Rattle.fed_journal.specs.declared.entry.Cause.TheVariants.{Asked, Lost}
use Rattle.fed_journal.specs.declared.entry.Entry.{Entry}
use Rattle.fed_journal.specs.declared.entry.Entry.TheVariants.{Event, Edu, Close}
use Rattle.fed_journal.specs.declared.parcel.Load.{Load}
use Rattle.fed_journal.specs.declared.parcel.Load.TheVariants as load
use Rattle.fed_journal.specs.declared.parcel.Parcel.{Parcel}
use Rattle.fed_journal.specs.Place.{PlaceValue}
use Rattle.fed_journal.specs.Entry.{entry_code}

-- the entries, and how many more there is room for
pub record JournalState : Type 0 where
  pub entries : List Entry
  pub reserved : ℕ

abbrev pub journal_code : Coded JournalState
journal_code = code_by (List Entry × ℕ) (coded× (coded_list entry_code) coded_ℕ) (λ j. (j.entries, j.reserved)) (λ p. record { entries = p.0; reserved = p.1 }) (λ _. refl)

-- the entry closes the outbox of d
abbrev pub closes : ℕ → Entry → Bool
closes d (Event event dests) = false
closes d (Edu edu dests) = false
closes d (Close dest cause) = dest == d

-- whether the outbox of d is open after one more entry: an entry that closes it is the only one that makes a difference
abbrev pub open_after : ℕ → Bool → Entry → Bool
open_after d was_open entry = was_open && not (closes d entry)

-- whether it is after these entries
abbrev pub is_open : ℕ → Bool → List Entry → Bool
is_open d was_open [] = was_open
is_open d was_open (entry ∷ entries) = is_open d (open_after d was_open entry) entries

-- it is open at first
abbrev pub is_closed : List Entry → ℕ → Bool
is_closed entries d = not (is_open d true entries)

-- those of the entries that find it open
abbrev pub reaching : ℕ → Bool → List Entry → List Entry
reaching d was_open [] = []
reaching d was_open (entry ∷ entries) = if was_open then entry ∷ reaching d (open_after d was_open entry) entries else reaching d (open_after d was_open entry) entries

-- the entry closes the outbox of d because nothing takes its parcels any more
abbrev pub loses : ℕ → Entry → Bool
loses d (Event event dests) = false
loses d (Edu edu dests) = false
loses d (Close dest Asked) = false
loses d (Close dest Lost) = dest == d

abbrev pub is_lost : List Entry → ℕ → Bool
is_lost entries d = list_any (loses d) entries

-- the event, and the EDU, that an entry addresses to d
abbrev pub event_for : ℕ → Entry → Option CheckedEvent
event_for d (Event event dests) = if is_among dests d then Some event else None
event_for d (Edu edu dests) = None
event_for d (Close dest cause) = None

abbrev pub edu_for : ℕ → Entry → Option Data
edu_for d (Event event dests) = None
edu_for d (Edu edu dests) = if is_among dests d then Some edu else None
edu_for d (Close dest cause) = None

-- the events, and the EDUs, addressed to d, in order
abbrev pub addressed : List Entry → ℕ → List CheckedEvent
addressed entries d = filter_map (event_for d) (reaching d true entries)

abbrev pub addressed_edus : List Entry → ℕ → List Data
addressed_edus entries d = filter_map (edu_for d) (reaching d true entries)

-- all events, and all EDUs, of a journal
abbrev pub event_in : Entry → Option CheckedEvent
event_in (Event event dests) = Some event
event_in (Edu edu dests) = None
event_in (Close dest cause) = None

abbrev pub edu_in : Entry → Option Data
edu_in (Event event dests) = None
edu_in (Edu edu dests) = Some edu
edu_in (Close dest cause) = None

abbrev pub events_of : List Entry → List CheckedEvent
events_of entries = filter_map event_in entries

abbrev pub edus_of : List Entry → List Data
edus_of entries = filter_map edu_in entries

-- what an entry places for d while its outbox is open: what it addresses to d, or the end where the closing was asked for
abbrev pub end_of : Cause → Option Load
end_of Asked = Some load.End
end_of Lost = None

abbrev pub load_for : ℕ → Entry → Option Load
load_for d (Event event dests) = if is_among dests d then Some (load.Event event) else None
load_for d (Edu edu dests) = if is_among dests d then Some (load.Edu edu) else None
load_for d (Close dest cause) = if dest == d then end_of cause else None

-- what was ever placed for d, in order, and how much that is
abbrev pub loads : List Entry → ℕ → List Load
loads entries d = filter_map (load_for d) (reaching d true entries)

abbrev pub placed : List Entry → ℕ → ℕ
placed entries d = length (loads entries d)

-- where the next parcel for d stands; none is placed once its outbox is closed
abbrev pub next_place : List Entry → ℕ → Option PlaceValue
next_place entries d = if is_closed entries d then None else Some (record { dest = d; number = placed entries d + 1 })

-- loads for d as parcels, numbered after n others
abbrev pub numbered : ℕ → ℕ → List Load → List Parcel
numbered d n [] = []
numbered d n (x ∷ xs) = record { place = record { dest = d; number = n + 1 }; load = x } ∷ numbered d (n + 1) xs

-- the parcels ever placed for d
abbrev pub parcels : List Entry → ℕ → List Parcel
parcels entries d = numbered d 0 (loads entries d)

-- the journal with one more entry, which takes of the room
abbrev pub with_entry : JournalState → Entry → JournalState
with_entry journal entry = record { entries = journal.entries ++ entry ∷ []; reserved = journal.reserved - 1 }

-- with room for at least so many entries
abbrev pub with_room : JournalState → ℕ → JournalState
with_room journal more = record { entries = journal.entries; reserved = max journal.reserved more }
