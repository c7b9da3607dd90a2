-- Events of a state that are added one after another, for the clauses of private functions.
use Rattle.std.specs.Prelude.{List, [], ◌∷◌, ◌++◌, Result, Ok}
use Rattle.serde_json.specs.Data.{Data}
use Rattle.fed_redaction.specs.declared.version.Version.{Version}
use Rattle.fed_event.specs.Event.{Event}
use Rattle.fed_c.specs.declared.status.Status.{Status}
use Rattle.fed_c.specs.Results.{and_then}
use Rattle.fed_c.specs.HistoryParts.{checked_in}

abbrev pub with_state_events : Version → List Event → List Data → Result (List Event) Status
with_state_events version before [] = Ok before
with_state_events version before (value ∷ values) = and_then (checked_in version value) (λ checked. with_state_events version (before ++ checked.event ∷ []) values)
