-- The verdicts of members that are entered one after another, for the clauses of private functions.
use Rattle.std.specs.Prelude.{◌≡◌, ◌⊎◌, ℕ, List, [], ◌∷◌, Option, Some, None, option_and_then, Result, Ok, Err}
use Rattle.serde_json.specs.Data.{Data}
use Rattle.fed_json.specs.declared.fault.JsonFault.{JsonFault}
use Rattle.fed_json.specs.declared.fault.JsonFault.TheVariants as json
use Rattle.fed_txn.specs.declared.reply_fault.ReplyFault.{ReplyFault}
use Rattle.fed_txn.specs.declared.reply_fault.ReplyFault.TheVariants.{Memory, NotReply}
use Rattle.fed_txn.specs.Verdicts.{VerdictMap, with_verdict}
use Rattle.fed_txn.specs.ReplyReading.{verdict_in}

-- the verdicts with those of these members; none where a member has no verdict
abbrev pub with_verdicts_in : VerdictMap → List (List ℕ × Data) → Option VerdictMap
with_verdicts_in verdicts [] = Some verdicts
with_verdicts_in verdicts (pdu ∷ pdus) = option_and_then (λ error. with_verdicts_in (with_verdict verdicts pdu.0 error) pdus) (verdict_in pdu.1)

-- bytes that are read as no value are no reply
abbrev pub reply_fault_of : JsonFault → ReplyFault
reply_fault_of json.Memory = Memory
reply_fault_of json.NotJson = NotReply
reply_fault_of json.NotCanonicalValue = NotReply
reply_fault_of json.TooDeep = NotReply

abbrev pub or_not_reply : Option VerdictMap → Result VerdictMap ReplyFault
or_not_reply None = Err NotReply
or_not_reply (Some verdicts) = Ok verdicts

-- the verdicts, or the fault where there are none; or want of memory
abbrev pub IsOf : Option VerdictMap → Result VerdictMap ReplyFault → Type 0
IsOf verdicts result = (result ≡ or_not_reply verdicts) ⊎ (result ≡ Err Memory)
