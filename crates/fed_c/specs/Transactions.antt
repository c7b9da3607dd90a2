-- What the calls on the form of a transaction's body tell (Matrix, Server-Server API, "Transactions").
use Rattle.std.specs.Prelude.{◌≡◌, ◌≢◌, ℕ, List, [], Option, Some, None, option_map, unwrap_or, Result, Ok, Err}
use Rattle.fed_txn.specs.declared.fault.BodyField.{BodyField}
use Rattle.fed_txn.specs.declared.fault.BodyField.TheVariants.{Body, Origin, OriginServerTs, Pdus, Edus}
use Rattle.fed_txn.specs.declared.fault.TxnFault.{TxnFault}
use Rattle.fed_txn.specs.declared.fault.TxnFault.TheVariants as fault
use Rattle.fed_txn.specs.Fault.{fault_text}
use Rattle.fed_txn.specs.Transaction.{Transaction}
use Rattle.fed_c.specs.declared.status.Status.{Status}
use Rattle.fed_c.specs.declared.status.Status.TheVariants.{Done, Memory, NotJson, NotCanonical, BodyTooLarge, BadBody, TooManyPdus, TooManyEdus}
use Rattle.fed_c.specs.Status.{number_of}

-- the numbers that C sees (c/wikzord.h, `enum wikzord_part`)
abbrev pub part_number : BodyField → ℕ
part_number Body = 0
part_number Origin = 1
part_number OriginServerTs = 2
part_number Pdus = 3
part_number Edus = 4

abbrev pub fault_status : TxnFault → Status
fault_status fault.Memory = Memory
fault_status fault.NotJson = NotJson
fault_status fault.NotCanonical = NotCanonical
fault_status (fault.BadJson part) = BadBody
fault_status fault.TooManyPdus = TooManyPdus
fault_status fault.TooManyEdus = TooManyEdus
fault_status fault.TooLarge = BodyTooLarge

abbrev pub part_of : TxnFault → Option BodyField
part_of fault.Memory = None
part_of fault.NotJson = None
part_of fault.NotCanonical = None
part_of (fault.BadJson part) = Some part
part_of fault.TooManyPdus = None
part_of fault.TooManyEdus = None
part_of fault.TooLarge = None

abbrev pub body_status : Result Transaction TxnFault → Status
body_status (Ok transaction) = Done
body_status (Err fault) = fault_status fault

-- the number that was there, unless the fault is one of a part
abbrev pub part_told : Result Transaction TxnFault → ℕ → ℕ
part_told (Ok transaction) before = before
part_told (Err fault) before = unwrap_or (option_map part_number (part_of fault)) before

-- the status of a body or of its first fault and, where that is one of a part, the part; or that memory ran out, and nothing is told
pub record TellsPart (body : Result Transaction TxnFault) (status : ℕ) (part : ℕ × ℕ) : Type 0 where
  pub answered : status ≢ number_of Memory → status ≡ number_of (body_status body)
  pub told : status ≢ number_of Memory → part.1 ≡ part_told body part.0
  pub short_of_memory : status ≡ number_of Memory → part.1 ≡ part.0

-- the text of the fault, where there is one
abbrev pub body_error : Result Transaction TxnFault → List ℕ
body_error (Ok transaction) = []
body_error (Err fault) = fault_text fault
