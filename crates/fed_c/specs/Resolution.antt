-- What the call on state resolution answers (Matrix, room version 2, "State resolution").
use Rattle.std.specs.Prelude.{ℕ, List, map, Result, Ok}
use Rattle.std.specs.FinMap as finite
use Rattle.serde_json.specs.Data.{Data, string, array}
use Rattle.serde_json.specs.View.{items_of}
use Rattle.fed_json.specs.CanonicalText.{canonical_text}
use Rattle.fed_redaction.specs.declared.version.Version.{Version}
use Rattle.fed_room_contract.specs.State.{StateMap}
use Rattle.fed_resolve.specs.Resolution.{resolved_of}
use Rattle.fed_c.specs.declared.status.Status.{Status}
use Rattle.fed_c.specs.Results.{and_then}
use Rattle.fed_c.specs.Ids.{ids_in}
use Rattle.fed_c.specs.History.{history_in}
use Rattle.fed_c.specs.States.{states_in}

-- the ids of the events that a state names, in the order of their types and state keys
abbrev pub ids_value : StateMap → Data
ids_value state = array (items_of (map (λ entry. string entry.1) (finite.entries state)))

-- by the version of the room, events of it, those of them that are rejected, and the states
abbrev pub resolved_answer : Version → Result Data Status → Result Data Status → Result Data Status → Result (List ℕ) Status
resolved_answer version events rejected states =
    and_then (and_then rejected ids_in) (λ ids. and_then (history_in version ids events) (λ stored. and_then (and_then states (states_in stored))
    (λ held. Ok (canonical_text (ids_value (resolved_of stored held))))))
