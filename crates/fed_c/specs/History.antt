-- Events of a room as a JSON array gives them (Matrix, Server-Server API, "PDUs"), each behind its auth events. Prev events need not stand there:
-- state resolution looks at auth chains alone (room version 2, "State resolution").
use Rattle.std.specs.Prelude.{ℕ, List, [], ◌∷◌, ◌++◌, Bool, true, not, ◌&&◌, is_none, map, bytes_eq, if◌then◌else◌, Result, Ok, Err}
use Rattle.std.specs.List.{list_any}
use Rattle.serde_json.specs.Data.{Data}
use Rattle.serde_json.specs.Find.{as_str}
use Rattle.fed_json.specs.JsonRef.{as_items}
use Rattle.fed_keys.specs.Trusting.{trusting_checks}
use Rattle.fed_redaction.specs.declared.version.Version.{Version}
use Rattle.fed_redaction.specs.EventId.{event_id_of}
use Rattle.fed_event.specs.Event.{Event, event_in}
use Rattle.fed_event.specs.Tests.{holds, first_fault_of}
use Rattle.fed_event.specs.Signatures.{is_signed}
use Rattle.fed_event.specs.Checked.{CheckedEvent, checked_of}
use Rattle.fed_room_contract.specs.declared.graph.Stored.{Stored}
use Rattle.fed_room_contract.specs.declared.verdict.Verdict.{Verdict}
use Rattle.fed_room_contract.specs.declared.verdict.Verdict.TheVariants.{Accepted, Rejected}
use Rattle.fed_room_contract.specs.Graph.{is_stored, has_auths}
use Rattle.fed_room_contract.specs.Verdict.{no_rule}
use Rattle.fed_c.specs.declared.status.Status.{Status}
use Rattle.fed_c.specs.declared.status.Status.TheVariants.{BadEvents}
use Rattle.fed_c.specs.Results.{and_then, or_refusal}

-- it passes the tests, and its sender's server has a signature there: whose signatures check is the caller's to see
unfoldable pub is_event : Version → Data → Bool
is_event version value = is_none (first_fault_of value) && is_signed trusting_checks (event_in version value)

unfoldable pub taken : Version → Data → CheckedEvent
taken version value = checked_of trusting_checks (event_in version value)

-- the id is one of these
abbrev pub is_among : List Data → List ℕ → Bool
is_among ids id = list_any (λ item. holds (bytes_eq id) (as_str item)) ids

-- the id stands in this array
abbrev pub is_listed : Data → List ℕ → Bool
is_listed list id = holds (λ ids. is_among ids id) (as_items list)

abbrev pub verdict_by : Data → List ℕ → Verdict
verdict_by rejected id = if is_listed rejected id then Rejected no_rule else Accepted

-- the event as it is stored, where the rejected ones are listed
abbrev pub stored_as : Data → CheckedEvent → Stored
stored_as rejected checked = record { event = checked; verdict = verdict_by rejected (event_id_of checked.event) }

-- it is another one than those before it, and its auth events are among them
unfoldable pub comes_next : List Stored → Event → Bool
comes_next before event = not (is_stored before (event_id_of event)) && has_auths before event

-- behind these, each is an event and comes next
abbrev pub continues : Version → Data → List Stored → List Data → Bool
continues version rejected before [] = true
continues version rejected before (value ∷ values) =
    is_event version value && (comes_next before (taken version value).event && continues version rejected (before ++ stored_as rejected (taken version value) ∷ []) values)

abbrev pub history_of : Version → Data → List Data → Result (List Stored) Status
history_of version rejected values = if continues version rejected [] values then Ok (map (λ value. stored_as rejected (taken version value)) values) else Err BadEvents

abbrev pub history_in : Version → Data → Result Data Status → Result (List Stored) Status
history_in version rejected events = and_then events (λ value. and_then (or_refusal BadEvents (as_items value)) (history_of version rejected))
