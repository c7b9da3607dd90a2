-- What the call on the servers that an event goes to answers (Matrix, Server-Server API, "PDUs": it is sent to the other servers that are
-- joined in the room).
use Rattle.std.specs.Prelude.{◌≡◌, ℕ, List, ◌&&◌, not, All, map, filter, bytes_eq, Result, Ok, Err}
use Rattle.std.specs.List.{list_any}
use Rattle.serde_json.specs.Data.{Data, string, array}
use Rattle.serde_json.specs.View.{items_of}
use Rattle.fed_json.specs.CanonicalText.{canonical_text}
use Rattle.fed_redaction.specs.declared.version.Version.{Version}
use Rattle.fed_event.specs.Event.{Event}
use Rattle.fed_dest.specs.ServerName.{IsServerName}
use Rattle.fed_dest.specs.Joined.{joins_server}
use Rattle.fed_c.specs.declared.status.Status.{Status}
use Rattle.fed_c.specs.declared.status.Status.TheVariants.{BadServers}
use Rattle.fed_c.specs.Results.{and_then}
use Rattle.fed_c.specs.StateEvents.{state_events_in}
use Rattle.fed_c.specs.States.{made_of}

-- the array of these texts
abbrev pub texts_value : List (List ℕ) → Data
texts_value texts = array (items_of (map string texts))

-- it is the array of these names of servers
pub record AreServers (value : Result Data Status) (servers : List (List ℕ)) : Type 0 where
  pub listed : value ≡ Ok (texts_value servers)
  pub each : All IsServerName servers

-- why there are none
abbrev pub servers_fault : Result Data Status → Status
servers_fault (Ok value) = BadServers
servers_fault (Err fault) = fault

-- of these servers, in their order, the others that have a user whom some event of the state joins
abbrev pub sent_to : List Event → List (List ℕ) → List ℕ → List (List ℕ)
sent_to held servers own = filter (λ server. list_any (joins_server server) held && not (bytes_eq server own)) servers

-- by the version of the room, the events of the state, the servers and the own one
abbrev pub destinations_answer : Version → Result Data Status → List (List ℕ) → List ℕ → Result (List ℕ) Status
destinations_answer version state servers own =
    and_then (and_then state (state_events_in version)) (λ held. and_then (made_of held) (λ _. Ok (canonical_text (texts_value (sent_to held servers own)))))
