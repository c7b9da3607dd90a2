-- What the bytes of a body are read as.
use Rattle.std.specs.Prelude.{ℕ, List, length, nat_lt, if◌then◌else◌, Option, Some, None, Result, Ok, Err}
use Rattle.std.specs.Str.{is_utf8}
use Rattle.serde_json.specs.Data.{Data}
use Rattle.serde_json.specs.Read.{read as json_value}
use Rattle.fed_json.specs.Profile.{all_whole}
use Rattle.fed_txn.specs.declared.fault.TxnFault.{TxnFault}
use Rattle.fed_txn.specs.declared.fault.TxnFault.TheVariants.{NotJson, NotCanonical, TooLarge}
use Rattle.fed_txn.specs.Transaction.{Transaction, transaction_of}

-- a value of whole numbers in the range that a double holds exactly (appendix "Canonical JSON")
abbrev pub canonical_value : Data → Result Data TxnFault
canonical_value d = if all_whole d then Ok d else Err NotCanonical

abbrev pub value_or_fault : Option Data → Result Data TxnFault
value_or_fault None = Err NotJson
value_or_fault (Some d) = canonical_value d

-- the value of a body that is small enough, UTF-8, JSON and canonical, or the first fault
abbrev pub body_of : List ℕ → Result Data TxnFault
body_of bytes = if nat_lt 16777216 (length bytes) then Err TooLarge else value_or_fault (if is_utf8 bytes then json_value bytes else None)

abbrev pub transaction_or_fault : Result Data TxnFault → Result Transaction TxnFault
transaction_or_fault (Ok body) = transaction_of body
transaction_or_fault (Err fault) = Err fault

-- the transaction of the bytes of a body, or the first fault
abbrev pub read_of : List ℕ → Result Transaction TxnFault
read_of bytes = transaction_or_fault (body_of bytes)
