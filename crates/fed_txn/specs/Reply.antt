-- The reply to a transaction (Server-Server API, "Transactions": the response of `PUT /send/{txnId}`).
use Rattle.std.specs.Prelude.{ℕ, List, [], ◌∷◌, codes, Option, Some, None}
use Rattle.std.specs.FinMap as map
use Rattle.serde_json.specs.Data.{Data, string, object, Members, no_members, member}
use Rattle.fed_txn.specs.Verdicts.{VerdictMap}

-- an object of one member
abbrev pub single : List ℕ → Data → Data
single name value = object (member name value no_members)

-- `{}`, or `{"error":text}`
abbrev pub verdict_value : Option (List ℕ) → Data
verdict_value None = object no_members
verdict_value (Some text) = single (codes "error") (string text)

-- each id with its verdict
abbrev pub verdict_members : List (List ℕ × Option (List ℕ)) → Members
verdict_members [] = no_members
verdict_members (entry ∷ entries) = member entry.0 (verdict_value entry.1) (verdict_members entries)

-- `{"pdus":{id:verdict,..}}`
abbrev pub reply_value : VerdictMap → Data
reply_value verdicts = single (codes "pdus") (object (verdict_members (map.entries verdicts)))
