use Rattle.std.proofs.Common.{◌≡◌, ◌++◌, ◌∷◌, [], Some, false, option_map, codes, sym, ap, ap₂, ◌∙◌}
use Rattle.std.proofs.lemmas.List.{append_assoc}
use Rattle.std.proofs.lemmas.Result.{IfOk-weaker}
use Rattle.serde_json.specs.Data.{object, no_members, member}
use Rattle.serde_json.specs.Find.{get}
use Rattle.serde_json.specs.Written.{members_text}
use Rattle.fed_json.specs.CanonicalText.{canonical_text}
use Rattle.fed_json.specs.JsonRef.{seen}
use Rattle.fed_redaction.specs.Names.{member_if}
use Rattle.fed_redaction.proofs.signed.with_signed_alone.Goals as goal

pub returns-in_ok-_place-in-Some : goal.returns-in_ok-_place-in-Some
returns-in_ok-_place-in-Some c =
    let text = c.args.text.items in
    let left = member (codes "signed") (seen c.in-Some.signed) no_members in
    let there : get (codes "signed") (seen c.args.value) ≡ Some (seen c.in-Some.signed) = sym c.member.ensures ∙ ap (option_map seen) c.in-Some.is in
    let begun = ap₂ (λ t later. t ++ members_text later left) c.in_ok-part.ensures.text c.in_ok-part.ensures.first in
    let whole =
    c.in_ok-_place-in-Some.ensures.written no_members
    ∙ begun
    ∙ append_assoc text (123 ∷ []) (members_text false left)
    ∙ ap (λ o. text ++ canonical_text (object (member_if (codes "signed") o no_members))) (sym there) in
    IfOk-weaker c.end.result _ _ (λ done h. h ∙ whole) c.end.ensures
