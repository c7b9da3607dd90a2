use Rattle.std.proofs.Common.{sym, ap, ◌∙◌}
use Rattle.std.proofs.lemmas.Result.{IfOk-weaker}
use Rattle.fed_json.specs.CanonicalText.{canonical_text}
use Rattle.fed_json.specs.JsonRef.{seen}
use Rattle.fed_json.specs.Members.{members_left}
use Rattle.fed_redaction.specs.Event.{event_in}
use Rattle.fed_redaction.specs.Redaction.{kept_of}
use Rattle.fed_redaction.specs.TextsParts.{kept_by}
use Rattle.fed_redaction.specs.EventId.{signed_part}
use Rattle.fed_redaction.proofs.Parts.{signed_part-members}
use Rattle.fed_redaction.proofs.signed.signed_text.Goals as goal

pub returns-in-Some : goal.returns-in-Some
returns-in-Some c =
    let version = c.args.version in
    let kept = kept_by c.content_rule-rule.result in
    let table = c.content_rule-rule.ensures ∙ ap (kept_of version) c.event_type.ensures in
    let signed =
    sym (signed_part-members version (seen c.root-root.result) (members_left c.in-Some.members) kept (sym c.in-Some.ensures) table)
    ∙ ap (λ d. signed_part (event_in version d)) c.root-root.ensures in
    IfOk-weaker c.signed_object.result _ _ (λ text same. same ∙ ap canonical_text signed) c.signed_object.ensures
