-- Which bytes are a reply to a transaction, and what it says of each event (Server-Server API, "Transactions": the response of
-- `PUT /send/{txnId}`).
use Rattle.std.specs.Prelude.{◌≡◌, ℕ, List, true, codes, is_some, Option, Some, None, option_map, option_and_then}
use Rattle.std.specs.FinMap as map
use Rattle.std.specs.List.{list_all}
use Rattle.serde_json.specs.Data.{Data, object, Members}
use Rattle.serde_json.specs.Find.{get, get_member, as_str, as_object}
use Rattle.fed_json.specs.JsonRef.{pairs_of}
use Rattle.fed_json.specs.Reading.{ReadsWithin}
use Rattle.fed_txn.specs.Verdicts.{VerdictMap}

-- an `error` that is not there is no error, and one that is there is a text
abbrev pub error_in : Option Data → Option (Option (List ℕ))
error_in None = Some None
error_in (Some error) = option_map Some (as_str error)

-- what the value under an event id says of the event, where it is an object with such an `error` (PDU Processing Result)
abbrev pub verdict_in : Data → Option (Option (List ℕ))
verdict_in value = option_and_then (λ _. error_in (get (codes "error") value)) (as_object value)

-- the bytes are a JSON text of whole numbers, at most 127 levels deep, whose `pdus` is an object; each of its values says something
-- of an event, and these are the verdicts under its names
pub record IsReply (bytes : List ℕ) (verdicts : VerdictMap) : Type 0 where
  pub value : Data
  pub pdus : Members
  pub reads : ReadsWithin bytes 127 value
  pub pdus_is : get (codes "pdus") value ≡ Some (object pdus)
  pub each : list_all (λ pdu. is_some (verdict_in pdu.1)) (pairs_of pdus) ≡ true
  pub verdicts_are : (id : List ℕ) → map.get verdicts id ≡ option_and_then verdict_in (get_member id pdus)
