-- What the call on the reply to a transaction answers (Matrix, Server-Server API, "Transactions": the response of `PUT /send/{txnId}`).
use Rattle.std.specs.Prelude.{ℕ, List, map, is_some, if◌then◌else◌, Option, Some, None, option_map, option_and_then, unwrap_or, Result, Ok, Err}
use Rattle.std.specs.List.{list_all}
use Rattle.std.specs.FinMap as finite
use Rattle.serde_json.specs.Data.{Data}
use Rattle.serde_json.specs.Find.{as_str}
use Rattle.fed_json.specs.CanonicalText.{canonical_text}
use Rattle.fed_json.specs.JsonRef.{as_members}
use Rattle.fed_txn.specs.Reply.{reply_value}
use Rattle.fed_txn.specs.Verdicts.{VerdictMap}
use Rattle.fed_c.specs.declared.status.Status.{Status}
use Rattle.fed_c.specs.declared.status.Status.TheVariants.{BadVerdicts}
use Rattle.fed_c.specs.Values.{unless_empty}

-- what the value under an event id says of the event, where it is a text: its error, or none where the text is empty
abbrev pub verdict_in : Data → Option (Option (List ℕ))
verdict_in value = option_map unless_empty (as_str value)

-- the event id and the error of a member that says one
abbrev pub verdict_entry : List ℕ × Data → List ℕ × Option (List ℕ)
verdict_entry pdu = (pdu.0, unwrap_or (verdict_in pdu.1) None)

-- the verdicts of these members, where each says one
abbrev pub verdicts_of : List (List ℕ × Data) → Option VerdictMap
verdicts_of pdus = if list_all (λ pdu. is_some (verdict_in pdu.1)) pdus then Some (finite.from_entries (map verdict_entry pdus)) else None

-- the verdicts of an object
abbrev pub verdicts_in : Data → Option VerdictMap
verdicts_in value = option_and_then verdicts_of (as_members value)

abbrev pub reply_or_fault : Option VerdictMap → Result (List ℕ) Status
reply_or_fault None = Err BadVerdicts
reply_or_fault (Some verdicts) = Ok (canonical_text (reply_value verdicts))

-- the body of the reply, or the fault where there are no verdicts
abbrev pub reply_answer : Result Data Status → Result (List ℕ) Status
reply_answer (Ok value) = reply_or_fault (verdicts_in value)
reply_answer (Err fault) = Err fault
