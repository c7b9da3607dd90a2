use Rattle.std.proofs.Common.{sym, ap, ◌∙◌}
use Rattle.std.proofs.lemmas.Result.{IfOk-weaker}
use Rattle.fed_json.specs.CanonicalText.{canonical_text}
use Rattle.fed_json.specs.Members.{members_left}
use Rattle.fed_redaction.specs.ContentHash.{covered_part}
use Rattle.fed_redaction.proofs.Parts.{object-as_members}
use Rattle.fed_redaction.proofs.hash.covered_text.Goals as goal

pub returns-in-Some : goal.returns-in-Some
returns-in-Some c =
    let is = sym (object-as_members c.args.event.now (members_left c.in-Some.members) (sym c.in-Some.ensures)) in
    IfOk-weaker c.covered_object.result _ _ (λ text same. same ∙ ap (λ d. canonical_text (covered_part d)) is) c.covered_object.ensures
