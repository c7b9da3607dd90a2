-- What the call on the authorization rules answers (Matrix, room versions 10 and 11, "Authorization rules").
use Rattle.std.specs.Prelude.{ℕ, List, [], ◌∷◌, Bool, ⊤, Result, Ok, Err}
use Rattle.serde_json.specs.Data.{Data}
use Rattle.fed_redaction.specs.declared.version.Version.{Version}
use Rattle.fed_room_contract.specs.declared.rule.Rule.{Rule}
use Rattle.fed_auth.specs.Allowed.{allowed_by}
use Rattle.fed_c.specs.declared.status.Status.{Status}
use Rattle.fed_c.specs.Results.{and_then}
use Rattle.fed_c.specs.StateEvents.{state_events_in}
use Rattle.fed_c.specs.States.{made_of}
use Rattle.fed_c.specs.Signers.{checked_as}

-- nothing where the event is allowed; else the three numbers of the rule that rejects it
abbrev pub rule_numbers : Result ⊤ Rule → List ℕ
rule_numbers (Ok done) = []
rule_numbers (Err rule) = rule.section ∷ rule.condition ∷ rule.branch ∷ []

-- by the version of the room, the events of the state, and the event
abbrev pub allowed_answer : Version → Result Data Status → Result Data Status → Bool → Result (List ℕ) Status
allowed_answer version state event authorised =
    and_then (and_then state (state_events_in version)) (λ held. and_then (made_of held) (λ _. and_then (and_then event (checked_as version authorised))
    (λ checked. Ok (rule_numbers (allowed_by held checked)))))
