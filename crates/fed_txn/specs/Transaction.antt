-- A transaction (Server-Server API, "Transactions"): who sent it and when, its events (PDUs) and its ephemeral data units (EDUs).
use Rattle.std.specs.Prelude.{ℕ, ℤ, pos, List, [], ◌∷◌, length, nat_le, codes, string_bytes, Bool, is_some, if◌then◌else◌, Option, Some, None, option_and_then, unwrap_or, Result, Ok, Err}
use Rattle.serde_json.specs.Data.{Data}
use Rattle.serde_json.specs.Find.{as_str, as_object, get}
use Rattle.fed_json.specs.JsonRef.{as_whole, as_items}
use Rattle.fed_txn.specs.declared.fault.BodyField.TheVariants.{Body, Origin, OriginServerTs, Pdus, Edus}
use Rattle.fed_txn.specs.declared.fault.TxnFault.{TxnFault}
use Rattle.fed_txn.specs.declared.fault.TxnFault.TheVariants.{BadJson, TooManyPdus, TooManyEdus}
use Rattle.fed_txn.specs.declared.transaction.TransactionIn.{TransactionIn}

pub record Transaction : Type 0 where
  pub origin : List ℕ
  pub at_ms : ℤ
  pub pdus : List Data
  pub edus : List Data

abbrev pub parts : TransactionIn → Transaction
parts t = record { origin = string_bytes t.origin; at_ms = t.at_ms; pdus = t.pdus.items; edus = t.edus.items }

-- the parts of a body, where they are there and of their kind

abbrev pub origin_of : Data → Option (List ℕ)
origin_of body = option_and_then as_str (get (codes "origin") body)

abbrev pub at_ms_of : Data → Option ℤ
at_ms_of body = option_and_then as_whole (get (codes "origin_server_ts") body)

abbrev pub pdus_of : Data → Option (List Data)
pdus_of body = option_and_then as_items (get (codes "pdus") body)

-- a member that is not there is the empty list
abbrev pub items_or_empty : Option Data → Option (List Data)
items_or_empty None = Some []
items_or_empty (Some list) = as_items list

abbrev pub edus_of : Data → Option (List Data)
edus_of body = items_or_empty (get (codes "edus") body)

abbrev pub are_at_most : ℕ → Option (List Data) → Bool
are_at_most most list = nat_le (length (unwrap_or list [])) most

-- what a body has to pass, in order, each with the fault of one that does not: its kinds, at most 50 events and at most 100
-- ephemeral data units
abbrev pub tests : Data → List (Bool × TxnFault)
tests body =
    (is_some (as_object body), BadJson Body)
    ∷ (is_some (origin_of body), BadJson Origin)
    ∷ (is_some (at_ms_of body), BadJson OriginServerTs)
    ∷ (is_some (pdus_of body), BadJson Pdus)
    ∷ (is_some (edus_of body), BadJson Edus)
    ∷ (are_at_most 50 (pdus_of body), TooManyPdus)
    ∷ (are_at_most 100 (edus_of body), TooManyEdus)
    ∷ []

-- the fault of the first test that is not passed, or else the answer
abbrev pub unless_failed : List (Bool × TxnFault) → Transaction → Result Transaction TxnFault
unless_failed [] t = Ok t
unless_failed (test ∷ later) t = if test.0 then unless_failed later t else Err test.1

-- the transaction of a body that passes every test, or the first fault
abbrev pub transaction_of : Data → Result Transaction TxnFault
transaction_of body =
    unless_failed (tests body) (record {
      origin = unwrap_or (origin_of body) [];
      at_ms = unwrap_or (at_ms_of body) (pos 0);
      pdus = unwrap_or (pdus_of body) [];
      edus = unwrap_or (edus_of body) [];
    })
