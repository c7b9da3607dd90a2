use Rattle.std.proofs.Common.{◌≡◌, true, sym, ◌∙◌, ap, subst}
use Rattle.std.proofs.lemmas.Result.{IfOk-weaker}
use Rattle.serde_json.specs.Data.{Data}
use Rattle.fed_json.specs.JsonRef.{seen}
use Rattle.fed_json.specs.Members.{members_left}
use Rattle.fed_json.specs.Profile.{all_whole, keys_rise, IsProfile}
use Rattle.fed_json.specs.declared.json_ref.JsonRef.{JsonRef}
use Rattle.fed_redaction.specs.Redaction.{kept_of, type_of, redacted_in}
use Rattle.fed_redaction.specs.TextsParts.{kept_by}
use Rattle.fed_redaction.proofs.Parts.{shallow-members, redacted-members}
use Rattle.fed_redaction.proofs.redaction.redact.Goals as goal

pub redacted_object-requires : goal.redacted_object-requires
redacted_object-requires c = shallow-members (seen c.root-event.result) (members_left c.in-Some.members) (sym c.in-Some.ensures) c.root-event.result.shallow

pub returns-in-Some-clause-redacted : goal.returns-in-Some-clause-redacted
returns-in-Some-clause-redacted c =
    let version = c.args.version in
    let kept = kept_by c.content_rule-rule.result in
    let table : kept ≡ kept_of version (type_of (seen c.root-event.result)) = c.content_rule-rule.ensures ∙ ap (kept_of version) c.event_type.ensures in
    let whole = redacted-members version (seen c.root-event.result) (members_left c.in-Some.members) kept (sym c.in-Some.ensures) table in
    IfOk-weaker c.redacted_object.result _ _ (λ json h. h ∙ sym whole ∙ ap (redacted_in version) c.root-event.ensures) c.redacted_object.ensures

profile_of : (r : JsonRef) (d : Data) → seen r ≡ d → IsProfile d
profile_of r d same = record {
  whole = subst (λ v. all_whole v ≡ true) same r.whole;
  rising = subst (λ v. keys_rise v ≡ true) same r.rising;
}

pub returns-in-Some-clause-profile : goal.returns-in-Some-clause-profile
returns-in-Some-clause-profile c = profile_of c.root-event.result c.args.event.now c.root-event.ensures

pub returns-in-None-clause-profile : goal.returns-in-None-clause-profile
returns-in-None-clause-profile c = profile_of c.root-event.result c.args.event.now c.root-event.ensures
