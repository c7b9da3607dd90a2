-- Events that are stored one after another, for the clauses of private functions.
use Rattle.std.specs.Prelude.{List, [], ◌∷◌, ◌++◌, if◌then◌else◌, Result, Ok, Err}
use Rattle.serde_json.specs.Data.{Data}
use Rattle.fed_redaction.specs.declared.version.Version.{Version}
use Rattle.fed_event.specs.Checked.{CheckedEvent}
use Rattle.fed_room_contract.specs.declared.graph.Stored.{Stored}
use Rattle.fed_c.specs.declared.status.Status.{Status}
use Rattle.fed_c.specs.declared.status.Status.TheVariants.{BadEvents}
use Rattle.fed_c.specs.Results.{and_then}
use Rattle.fed_c.specs.History.{is_event, taken, stored_as, comes_next}

abbrev pub checked_in : Version → Data → Result CheckedEvent Status
checked_in version value = if is_event version value then Ok (taken version value) else Err BadEvents

abbrev pub with_event : Data → List Stored → CheckedEvent → Result (List Stored) Status
with_event rejected before checked = if comes_next before checked.event then Ok (before ++ stored_as rejected checked ∷ []) else Err BadEvents

abbrev pub with_events : Version → Data → List Stored → List Data → Result (List Stored) Status
with_events version rejected before [] = Ok before
with_events version rejected before (value ∷ values) = and_then (checked_in version value) (λ checked. and_then (with_event rejected before checked) (λ after. with_events version rejected after values))
