-- The journal that the fields of a `Journal` stand for, and how they hold together.
use Rattle.std.specs.Prelude.{◌≡◌, ℕ, ◌+◌, ◌≤◌, ◌^◌, List, true, Some, length, slice_get, vec_len, vec_capacity}
use Rattle.fed_journal.specs.declared.entry.Entry.{Entry}
use Rattle.fed_journal.specs.declared.journal.Journal.TheInside.{Inside}
use Rattle.fed_journal.specs.Journal.{JournalState, is_closed, reaching, event_for, edu_for, placed, events_of, edus_of}
use Rattle.fed_journal.specs.Lane.{LaneState}
use Rattle.fed_journal.specs.Standing.{places_from}

-- the lane of d, with room for so many more
pub record IsLane (entries : List Entry) (reserved d : ℕ) (lane : LaneState) : Type 0 where
  pub events : lane.events ≡ places_from (event_for d) 0 (reaching d true entries)
  pub edus : lane.edus ≡ places_from (edu_for d) 0 (reaching d true entries)
  pub placed : lane.placed ≡ placed entries d
  pub closed : lane.closed ≡ is_closed entries d
  pub room : reserved ≤ lane.room

abbrev pub AreLanes : List Entry → ℕ → List LaneState → Type 0
AreLanes entries reserved lanes = (d : ℕ) (lane : LaneState) → slice_get lanes d ≡ Some lane → IsLane entries reserved d lane

abbrev pub journal_of : Inside → JournalState
journal_of j = record { entries = j.entries.items; reserved = j.reserved }

pub record IsJournal (j : Inside) : Type 0 where
  pub count : length j.lanes.items ≡ 64
  pub lanes : AreLanes j.entries.items j.reserved j.lanes.items
  pub events : j.events ≡ length (events_of j.entries.items)
  pub edus : j.edus ≡ length (edus_of j.entries.items)
  pub within : length j.entries.items + j.reserved ≤ 2 ^ 53
  pub room : vec_len j.entries + j.reserved ≤ vec_capacity j.entries
