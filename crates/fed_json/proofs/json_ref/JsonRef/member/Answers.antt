use Rattle.std.proofs.Common.{◌≡◌, sym, ap, ◌∙◌}
use Rattle.serde_json.specs.Find.{get, get_member}
use Rattle.serde_json.specs.Data.{object}
use Rattle.serde_json.specs.Read.{max_depth}
use Rattle.fed_json.specs.Tree.{view, members_view}
use Rattle.fed_json.proofs.Parts.{get_within}
use Rattle.fed_json.proofs.Trees.{view-Object}
use Rattle.fed_json.proofs.json_ref.JsonRef.member.Goals as goal

pub invariant_of-result : goal.invariant_of-result
invariant_of-result c =
    let r = c.args.self in
    let name = c.args.name.now in
    let seen : view r.value.now ≡ object (members_view c.in-Object.members.items) = ap view c.in-Object.is ∙ view-Object c.in-Object.members in
    let there = ap (get name) seen ∙ ap (λ es. get_member name (members_view es)) (sym c.deref.ensures.value) ∙ sym c.in_ok-value-in-Object.ensures in
    let found = get_within max_depth name (view r.value.now) (view c.in_ok-value-in-Object.value.now) (record { whole = r.whole; rising = r.rising; shallow = r.shallow }) there in
    record { whole = found.whole; rising = found.rising; shallow = found.shallow }
