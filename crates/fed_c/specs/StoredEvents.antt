-- Events with their verdicts, as a JSON array gives them (Matrix, Server-Server API, "PDUs"): of each what its content hash leaves.
use Rattle.std.specs.Prelude.{List, map, if◌then◌else◌, Result, Ok, Err}
use Rattle.std.specs.List.{list_all}
use Rattle.serde_json.specs.Data.{Data}
use Rattle.fed_json.specs.JsonRef.{as_items}
use Rattle.fed_redaction.specs.declared.version.Version.{Version}
use Rattle.fed_room_contract.specs.declared.graph.Stored.{Stored}
use Rattle.fed_c.specs.declared.status.Status.{Status}
use Rattle.fed_c.specs.declared.status.Status.TheVariants.{BadEvents}
use Rattle.fed_c.specs.Results.{and_then, or_refusal}
use Rattle.fed_c.specs.History.{is_event, taken, stored_as}

-- in their order, where each is an event; the rejected ones are listed
abbrev pub stored_events_of : Version → Data → List Data → Result (List Stored) Status
stored_events_of version rejected values =
    if list_all (is_event version) values then Ok (map (λ value. stored_as rejected (taken version value)) values) else Err BadEvents

abbrev pub stored_events_in : Version → Data → Data → Result (List Stored) Status
stored_events_in version rejected value = and_then (or_refusal BadEvents (as_items value)) (stored_events_of version rejected)
