-- Verdicts that are entered one after another, for the clauses of private functions.
use Rattle.std.specs.Prelude.{◌≡◌, ◌⊎◌, ℕ, List, [], ◌∷◌, Option, Some, None, option_and_then, Result, Ok, Err}
use Rattle.serde_json.specs.Data.{Data}
use Rattle.fed_txn.specs.Verdicts.{VerdictMap, with_verdict}
use Rattle.fed_c.specs.declared.status.Status.{Status}
use Rattle.fed_c.specs.declared.status.Status.TheVariants.{Memory, BadVerdicts}
use Rattle.fed_c.specs.Replies.{verdict_in}

-- the verdicts with those of these members; none where a member says none
abbrev pub with_verdicts_in : VerdictMap → List (List ℕ × Data) → Option VerdictMap
with_verdicts_in verdicts [] = Some verdicts
with_verdicts_in verdicts (pdu ∷ pdus) = option_and_then (λ error. with_verdicts_in (with_verdict verdicts pdu.0 error) pdus) (verdict_in pdu.1)

-- the verdicts, or the fault where there are none; or want of memory
abbrev pub or_bad : Option VerdictMap → Result VerdictMap Status
or_bad None = Err BadVerdicts
or_bad (Some verdicts) = Ok verdicts

abbrev pub IsOf : Option VerdictMap → Result VerdictMap Status → Type 0
IsOf verdicts result = (result ≡ or_bad verdicts) ⊎ (result ≡ Err Memory)
