-- What the call on the auth events of an event answers (Matrix, Server-Server API, "Auth events selection").
use Rattle.std.specs.Prelude.{ℕ, List, [], ◌∷◌, option_map, Result, Ok, Err}
use Rattle.std.specs.List.{filter_map}
use Rattle.serde_json.specs.Data.{Data, string, array}
use Rattle.serde_json.specs.View.{items_of}
use Rattle.fed_json.specs.CanonicalText.{canonical_text}
use Rattle.fed_redaction.specs.declared.version.Version.{Version}
use Rattle.fed_event.specs.Event.{Event, event_in}
use Rattle.fed_room_contract.specs.State.{StateKey}
use Rattle.fed_auth.specs.Selection.{selector_of, selection_keys}
use Rattle.fed_c.specs.declared.status.Status.{Status}

-- `[type,state_key]`
abbrev pub key_value : StateKey → Data
key_value key = array (items_of (string key.0 ∷ string key.1 ∷ []))

-- the keys of the selection, in their order
abbrev pub selected : Event → Data
selected event = array (items_of (filter_map (option_map key_value) (selection_keys (selector_of event))))

abbrev pub selection_answer : Version → Result Data Status → Result (List ℕ) Status
selection_answer version (Ok value) = Ok (canonical_text (selected (event_in version value)))
selection_answer version (Err fault) = Err fault
