-- What contracts see of an event: its value, and the version of the room that it is of (Matrix, "Room versions").
use Rattle.std.specs.Prelude.{refl}
use Rattle.std.specs.Coded.{Coded, code_by, coded×}
use Rattle.serde_json.specs.Data.{Data}
use Rattle.fed_json.specs.Code.{coded_data}
use Rattle.fed_redaction.specs.declared.version.Version.{Version}
use Rattle.fed_redaction.specs.Version.{coded_version}

pub record Event : Type 0 where
  pub version : Version
  pub value : Data

-- the event of this value in a room of this version
abbrev pub event_in : Version → Data → Event
event_in version value = record { version = version; value = value }

abbrev pub coded_event : Coded Event
coded_event = code_by (Version × Data) (coded× coded_version coded_data) (λ e. (e.version, e.value)) (λ p. event_in p.0 p.1) (λ _. refl)
