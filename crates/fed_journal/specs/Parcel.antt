-- How a load and a parcel are stored where a contract keeps one. Nothing else is said of them.
use Rattle.std.specs.Prelude.{◌≡◌, Option, Some, None, refl}
use Rattle.std.specs.Coded.{Coded, code_by, coded×, coded_option}
use Rattle.serde_json.specs.Data.{Data}
use Rattle.fed_json.specs.Code.{coded_data}
use Rattle.fed_event.specs.Checked.{CheckedEvent, checked_code}
use Rattle.fed_journal.specs.Place.{PlaceValue, place_code}
use Rattle.fed_journal.specs.declared.parcel.Load.{Load}
use Rattle.fed_journal.specs.declared.parcel.Load.TheVariants.{Event, Edu, End}
use Rattle.fed_journal.specs.declared.parcel.Parcel.{Parcel}

-- an event or an EDU, or neither
abbrev pub LoadParts : Type 0
LoadParts = Option CheckedEvent × Option Data

abbrev pub load_parts : Load → LoadParts
load_parts (Event event) = (Some event, None)
load_parts (Edu edu) = (None, Some edu)
load_parts End = (None, None)

abbrev pub load_of : LoadParts → Load
load_of (Some event, edu) = Event event
load_of (None, Some edu) = Edu edu
load_of (None, None) = End

pub load_of-load_parts : (l : Load) → load_of (load_parts l) ≡ l
load_of-load_parts (Event event) = refl
load_of-load_parts (Edu edu) = refl
load_of-load_parts End = refl

abbrev pub load_code : Coded Load
load_code = code_by LoadParts (coded× (coded_option checked_code) (coded_option coded_data)) load_parts load_of load_of-load_parts

abbrev pub parcel_code : Coded Parcel
parcel_code = code_by (PlaceValue × Load) (coded× place_code load_code) (λ p. (p.place, p.load)) (λ p. record { place = p.0; load = p.1 }) (λ _. refl)
