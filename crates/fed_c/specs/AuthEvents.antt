-- What the call on the auth events of an event answers (Matrix, room versions 10 and 11, "Authorization rules": rule 2, and then the others;
-- Server-Server API, "Checks performed on receipt of a PDU", check 4).
use Rattle.std.specs.Prelude.{ℕ, List, [], Bool, ⊤, is_some, map, codes, bytes_eq, if◌then◌else◌, Result, Ok, Err}
use Rattle.std.specs.List.{list_all}
use Rattle.serde_json.specs.Data.{Data}
use Rattle.fed_redaction.specs.declared.version.Version.{Version}
use Rattle.fed_event.specs.Fields.{auth_events_of, kind_of}
use Rattle.fed_event.specs.Checked.{CheckedEvent}
use Rattle.fed_room_contract.specs.declared.rule.Rule.{Rule}
use Rattle.fed_room_contract.specs.declared.graph.Stored.{Stored}
use Rattle.fed_room_contract.specs.Graph.{stored_at}
use Rattle.fed_auth.specs.Table.{decide}
use Rattle.fed_auth.specs.Allowed.{allowed_by}
use Rattle.fed_auth.specs.AuthState.{stored_of, auth_table}
use Rattle.fed_c.specs.declared.status.Status.{Status}
use Rattle.fed_c.specs.declared.status.Status.TheVariants.{MissingEvents}
use Rattle.fed_c.specs.Results.{and_then}
use Rattle.fed_c.specs.Allowed.{rule_numbers}
use Rattle.fed_c.specs.Ids.{ids_in}
use Rattle.fed_c.specs.Signers.{checked_as}
use Rattle.fed_c.specs.StoredEvents.{stored_events_in}

-- the events of these ids, where all are given
abbrev pub named : List Stored → List (List ℕ) → Result (List Stored) Status
named given ids = if list_all (λ id. is_some (stored_at given id)) ids then Ok (stored_of given ids) else Err MissingEvents

-- where rule 2 rejects nothing, the other rules
abbrev pub and_by_others : Result ⊤ Rule → Result ⊤ Rule → Result ⊤ Rule
and_by_others (Ok done) others = others
and_by_others (Err rule) others = Err rule

-- by the auth events that an event names; a create event has none
abbrev pub allowed_by_auth : CheckedEvent → List Stored → Result ⊤ Rule
allowed_by_auth checked auth =
    if bytes_eq (kind_of checked.event) (codes "m.room.create") then allowed_by [] checked
    else and_by_others (decide (auth_table checked.event auth)) (allowed_by (map (λ stored. stored.event.event) auth) checked)

-- by the version of the room, the rejected ones, the events among which are those that it names, and the event
abbrev pub auth_answer : Version → Result Data Status → Result Data Status → Result Data Status → Bool → Result (List ℕ) Status
auth_answer version rejected events event authorised =
    and_then (and_then rejected ids_in) (λ ids. and_then (and_then events (stored_events_in version ids)) (λ given. and_then (and_then event (checked_as version authorised))
    (λ checked. and_then (named given (auth_events_of checked.event)) (λ auth. Ok (rule_numbers (allowed_by_auth checked auth))))))
