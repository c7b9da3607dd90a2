-- Events that are added one after another, for the clauses of private functions.
use Rattle.std.specs.Prelude.{ℕ, List, [], ◌∷◌, ◌++◌, Result, Ok}
use Rattle.serde_json.specs.Data.{Data}
use Rattle.fed_redaction.specs.declared.version.Version.{Version}
use Rattle.fed_room_contract.specs.declared.graph.Stored.{Stored}
use Rattle.fed_room_contract.specs.Graph.{stored_at}
use Rattle.fed_c.specs.declared.status.Status.{Status}
use Rattle.fed_c.specs.declared.status.Status.TheVariants.{MissingEvents}
use Rattle.fed_c.specs.Results.{and_then, or_refusal}
use Rattle.fed_c.specs.History.{stored_as}
use Rattle.fed_c.specs.HistoryParts.{checked_in}

abbrev pub with_stored_events : Version → Data → List Stored → List Data → Result (List Stored) Status
with_stored_events version rejected before [] = Ok before
with_stored_events version rejected before (value ∷ values) =
    and_then (checked_in version value) (λ checked. with_stored_events version rejected (before ++ stored_as rejected checked ∷ []) values)

abbrev pub with_named : List Stored → List Stored → List (List ℕ) → Result (List Stored) Status
with_named given before [] = Ok before
with_named given before (id ∷ ids) = and_then (or_refusal MissingEvents (stored_at given id)) (λ auth. with_named given (before ++ auth ∷ []) ids)
