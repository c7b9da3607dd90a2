use Rattle.std.proofs.Common.{sym, ◌∙◌, ap}
use Rattle.serde_json.specs.Find.{get}
use Rattle.fed_redaction.specs.Redaction.{redacted}
use Rattle.fed_redaction.specs.EventId.{unsigned_keys}
use Rattle.fed_redaction.proofs.Redacting.{event_id_from, get-leave_out}
use Rattle.fed_redaction.proofs.laws.what_is_signed.Goals as goal

pub returns-clause-id : goal.returns-clause-id
returns-clause-id c d e same = ap event_id_from same

pub returns-clause-left : goal.returns-clause-left
returns-clause-left c one other k same out =
    sym (get-leave_out unsigned_keys k (redacted one).value out) ∙ ap (get k) same ∙ get-leave_out unsigned_keys k (redacted other).value out
