-- The event that an element of `pdus` is read as (Matrix, "Room versions"): one of a room of version 10.
use Rattle.std.specs.Prelude.{ℕ, List}
use Rattle.serde_json.specs.Data.{Data}
use Rattle.fed_redaction.specs.declared.version.Version.TheVariants.{V10}
use Rattle.fed_event.specs.Event.{Event, event_in}
use Rattle.fed_event.specs.EventId.{event_id_of}

abbrev pub read_as : Data → Event
read_as element = event_in V10 element

abbrev pub element_id : Data → List ℕ
element_id element = event_id_of (read_as element)
