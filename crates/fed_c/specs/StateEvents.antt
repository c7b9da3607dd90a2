-- The events of a state of a room as a JSON array gives them (Matrix, Server-Server API, "PDUs"): of each what its content hash leaves.
use Rattle.std.specs.Prelude.{List, map, if◌then◌else◌, Result, Ok, Err}
use Rattle.std.specs.List.{list_all}
use Rattle.serde_json.specs.Data.{Data}
use Rattle.fed_json.specs.JsonRef.{as_items}
use Rattle.fed_redaction.specs.declared.version.Version.{Version}
use Rattle.fed_event.specs.Event.{Event}
use Rattle.fed_c.specs.declared.status.Status.{Status}
use Rattle.fed_c.specs.declared.status.Status.TheVariants.{BadEvents}
use Rattle.fed_c.specs.Results.{and_then, or_refusal}
use Rattle.fed_c.specs.History.{is_event, taken}

-- in their order, where each is an event
abbrev pub state_events_of : Version → List Data → Result (List Event) Status
state_events_of version values =
    if list_all (is_event version) values then Ok (map (λ value. (taken version value).event) values) else Err BadEvents

abbrev pub state_events_in : Version → Data → Result (List Event) Status
state_events_in version value = and_then (or_refusal BadEvents (as_items value)) (state_events_of version)
