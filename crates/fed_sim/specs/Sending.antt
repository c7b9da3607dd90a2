-- How parcels get on their ways.
use Rattle.std.specs.Prelude.{◌≡◌, ◌≤◌, ◌<◌, ◌+◌, ◌==◌, ℕ, Bool, true, List, [], ◌∷◌, ◌++◌, filter, length, Option, Some, None, slice_get, if◌then◌else◌}
use Rattle.fed_dest.specs.ServerSet.{is_among}
use Rattle.fed_journal.specs.declared.entry.Entry.{Entry}
use Rattle.fed_journal.specs.declared.parcel.Parcel.{Parcel}
use Rattle.fed_outbox.specs.Collecting.{Way}
use Rattle.fed_sim.specs.Way.{WayState}
use Rattle.fed_journal.specs.Offered.{number_of, entry_of}
use Rattle.fed_journal.specs.Offering.{has_place, open_among}
use Rattle.fed_sim.specs.Ways.{ways_beyond}
use Rattle.fed_sim.specs.declared.entering.Entered.{Entered}
use Rattle.fed_journal.specs.declared.offered.Offered.{Offered}

-- on each way there is room for so many more parcels
abbrev pub HasRoom : ℕ → List WayState → Type 0
HasRoom more ways = (d : ℕ) (way : WayState) → slice_get ways d ≡ Some way → more ≤ way.free

-- those that are for d
abbrev pub parcels_for : ℕ → List Parcel → List Parcel
parcels_for d parcels = filter (λ (parcel : Parcel). parcel.place.dest == d) parcels

-- on each way there is room for those of the parcels that are for its destination
abbrev pub HasRoomFor : List Parcel → List WayState → Type 0
HasRoomFor parcels ways = (d : ℕ) (way : WayState) → slice_get ways d ≡ Some way → length (parcels_for d parcels) ≤ way.free

-- servers that are among so many
abbrev pub AreAmong : ℕ → List ℕ → Type 0
AreAmong count servers = (d : ℕ) → is_among servers d ≡ true → d < count

-- parcels that are for servers among so many
abbrev pub AreFor : ℕ → List Parcel → Type 0
AreFor count parcels = (k : ℕ) (parcel : Parcel) → slice_get parcels k ≡ Some parcel → parcel.place.dest < count

-- the ways to the servers from place n on, with the parcels for each of them behind its queue
abbrev pub pushed_from : ℕ → List Parcel → List Way → List Way
pushed_from n parcels [] = []
pushed_from n parcels (way ∷ ways) = record { queue = way.queue ++ parcels_for n parcels; outbox = way.outbox } ∷ pushed_from (n + 1) parcels ways

-- what is told of an offer, and what the journal and the ways are after it: as they were where the journal has no place for it
module _ (offered : Offered) (dests : List ℕ) (entries : List Entry) where
  abbrev pub fits : Bool
  fits = has_place entries (length (open_among entries dests))

  abbrev pub entered_told : Option Entered
  entered_told = if fits then Some (record { number = number_of offered (entries ++ entry_of offered dests ∷ []); dests = open_among entries dests }) else None

  abbrev pub entries_after : List Entry
  entries_after = if fits then entries ++ entry_of offered dests ∷ [] else entries

  abbrev pub ways_after : List Way → List Way
  ways_after ways = if fits then ways_beyond 0 entries (entries ++ entry_of offered dests ∷ []) ways else ways
