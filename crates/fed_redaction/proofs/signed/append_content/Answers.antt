use Rattle.std.proofs.Common.{ℕ, ◌++◌, Vec, Global, sym, ap, ◌∙◌}
use Rattle.serde_json.specs.Data.{object}
use Rattle.fed_json.specs.CanonicalText.{canonical_text}
use Rattle.fed_json.specs.JsonRef.{seen}
use Rattle.fed_json.specs.Members.{members_left}
use Rattle.fed_redaction.specs.Names.{keep, members_of}
use Rattle.fed_redaction.specs.Redaction.{kept_value}
use Rattle.fed_redaction.specs.TextsParts.{kept_by}
use Rattle.fed_redaction.proofs.Parts.{kept_content-members}
use Rattle.fed_redaction.proofs.signed.append_content.Goals as goal

pub returns-in_ok-text-in-Some : goal.returns-in_ok-text-in-Some
returns-in_ok-text-in-Some c =
    let rule = kept_by c.args.rule in
    let kept = object (keep (kept_value rule) (members_of (members_left c.in-Some.members))) in
    let same = kept_content-members rule (seen c.args.content) (members_left c.in-Some.members) (sym c.in-Some.ensures) in
    let taken = ap (λ (v : Vec ℕ Global). v.items) c.in_ok-try_take-in-Some.ensures.value in
    c.in_ok-text-in-Some.ensures ∙ ap (λ text. text ++ canonical_text kept) taken ∙ ap (λ d. c.args.text.now.items ++ canonical_text d) (sym same)
