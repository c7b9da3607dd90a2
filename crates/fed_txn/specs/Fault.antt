-- The error texts of the faults: what the `error` member of a standard error reply holds (Client-Server API, "Standard error
-- response"); the words are this server's own.
use Rattle.std.specs.Prelude.{ℕ, List, ◌++◌, codes}
use Rattle.fed_txn.specs.declared.fault.BodyField.{BodyField}
use Rattle.fed_txn.specs.declared.fault.BodyField.TheVariants.{Body, Origin, OriginServerTs, Pdus, Edus}
use Rattle.fed_txn.specs.declared.fault.TxnFault.{TxnFault}
use Rattle.fed_txn.specs.declared.fault.TxnFault.TheVariants.{Memory, NotJson, NotCanonical, BadJson, TooManyPdus, TooManyEdus, TooLarge}

abbrev pub field_name : BodyField → List ℕ
field_name Body = codes "body"
field_name Origin = codes "origin"
field_name OriginServerTs = codes "origin_server_ts"
field_name Pdus = codes "pdus"
field_name Edus = codes "edus"

abbrev pub fault_text : TxnFault → List ℕ
fault_text Memory = codes "out of memory"
fault_text NotJson = codes "not json"
fault_text NotCanonical = codes "not canonical"
fault_text (BadJson field) = codes "bad field: " ++ field_name field
fault_text TooManyPdus = codes "too many pdus"
fault_text TooManyEdus = codes "too many edus"
fault_text TooLarge = codes "body too large"
