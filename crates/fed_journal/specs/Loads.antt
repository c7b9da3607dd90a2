-- What the parcels of a destination hold, taken apart.
use Rattle.std.specs.Prelude.{ℕ, List, [], ◌∷◌, Bool, true, false, Option, Some, None}
use Rattle.serde_json.specs.Data.{Data}
use Rattle.fed_json.specs.CanonicalText.{canonical_text}
use Rattle.fed_event.specs.Checked.{CheckedEvent, checked_text}
use Rattle.fed_journal.specs.declared.parcel.Load.{Load}
use Rattle.fed_journal.specs.declared.parcel.Load.TheVariants.{Event, Edu, End}
use Rattle.fed_journal.specs.declared.parcel.Parcel.{Parcel}

-- the event, and the EDU, that a parcel holds
abbrev pub event_in_load : Load → Option CheckedEvent
event_in_load (Event event) = Some event
event_in_load (Edu edu) = None
event_in_load End = None

abbrev pub edu_in_load : Load → Option Data
edu_in_load (Event event) = None
edu_in_load (Edu edu) = Some edu
edu_in_load End = None

-- the load is the end
abbrev pub is_end : Load → Bool
is_end (Event event) = false
is_end (Edu edu) = false
is_end End = true

-- a text that tells a load, and a parcel, from every other
abbrev pub load_text : Load → List ℕ
load_text (Event event) = 0 ∷ checked_text event
load_text (Edu edu) = 1 ∷ canonical_text edu
load_text End = 2 ∷ []

abbrev pub parcel_text : Parcel → List ℕ
parcel_text parcel = parcel.place.dest ∷ parcel.place.number ∷ load_text parcel.load
