-- The body of the request that sends a transaction (Matrix, Server-Server API, "Transactions": `PUT /send/{txnId}`).
use Rattle.std.specs.Prelude.{◌<◌, ◌≤◌, ◌^◌, ℕ, pos, List, [], ◌∷◌, ◌++◌, length, map, All, codes, decimal}
use Rattle.serde_json.specs.Data.{Data, string, number, unsigned, array, object, Members, no_members, member, depth}
use Rattle.serde_json.specs.View.{items_of}
use Rattle.fed_json.specs.CanonicalText.{canonical_text}
use Rattle.fed_event.specs.Checked.{CheckedEvent}
use Rattle.fed_outbox.specs.Transaction.{TransactionValue}
use Rattle.fed_txn.specs.Transaction.{Transaction}

-- the element of `pdus` that sends an event: its value
abbrev pub event_of : CheckedEvent → Data
event_of checked = checked.event.value

abbrev pub list_value : List Data → Data
list_value values = array (items_of values)

-- `edus` in front of other members, where there are some
abbrev pub with_edus : List Data → Members → Members
with_edus [] members = members
with_edus (edu ∷ edus) members = member (codes "edus") (list_value (edu ∷ edus)) members

-- `{"edus":[..],"origin":..,"origin_server_ts":..,"pdus":[..]}`
abbrev pub body_value : List ℕ → TransactionValue → Data
body_value origin t =
    object (with_edus t.edus
    (member (codes "origin") (string origin)
    (member (codes "origin_server_ts") (number (unsigned t.at_ms))
    (member (codes "pdus") (list_value (map event_of t.pdus)) no_members))))

-- the transaction as its receiver reads it
abbrev pub received : List ℕ → TransactionValue → Transaction
received origin t = record { origin = origin; at_ms = pos t.at_ms; pdus = map event_of t.pdus; edus = t.edus }

-- the limits that let a receiver read it: of the counts, of the time (appendix "Canonical JSON"), and of each ephemeral data unit the
-- depth and size that an event may have; an event keeps its own
pub record IsWithinLimits (t : TransactionValue) : Type 0 where
  pub time : t.at_ms < 2 ^ 53
  pub pdus : length t.pdus ≤ 50
  pub edus : length t.edus ≤ 100
  pub levels : All (λ edu. depth edu ≤ 100) t.edus
  pub sizes : All (λ edu. length (canonical_text edu) ≤ 65536) t.edus

-- the parts of its text, for clauses of private functions
abbrev pub edus_text : List Data → List ℕ
edus_text [] = []
edus_text (edu ∷ edus) = codes "\"edus\":" ++ (canonical_text (list_value (edu ∷ edus)) ++ codes ",")

abbrev pub header_text : List ℕ → ℕ → List ℕ
header_text origin at_ms = codes "\"origin\":" ++ (canonical_text (string origin) ++ (codes ",\"origin_server_ts\":" ++ (decimal at_ms ++ codes ",")))

abbrev pub pdus_text : List Data → List ℕ
pdus_text pdus = codes "\"pdus\":" ++ canonical_text (list_value pdus)
