use Rattle.std.proofs.Common.{sym, ◌∙◌}
use Rattle.std.proofs.lemmas.Result.{IfOk-weaker}
use Rattle.fed_json.specs.JsonRef.{seen}
use Rattle.fed_json.specs.Members.{members_left}
use Rattle.fed_redaction.specs.TextsParts.{kept_by}
use Rattle.fed_redaction.proofs.Parts.{shallow-members, kept_content-members}
use Rattle.fed_redaction.proofs.redaction.kept_object.Goals as goal

pub kept_members-requires : goal.kept_members-requires
kept_members-requires c = shallow-members (seen c.args.content) (members_left c.in-Some.members) (sym c.in-Some.ensures) c.args.content.shallow

pub returns-in-Some : goal.returns-in-Some
returns-in-Some c =
    let same = kept_content-members (kept_by c.args.rule) (seen c.args.content) (members_left c.in-Some.members) (sym c.in-Some.ensures) in
    IfOk-weaker c.kept_members.result _ _ (λ json h. h ∙ sym same) c.kept_members.ensures
