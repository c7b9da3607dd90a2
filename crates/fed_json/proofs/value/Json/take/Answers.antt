use Rattle.std.proofs.Common.{sym}
use Rattle.serde_json.specs.Read.{max_depth}
use Rattle.fed_json.specs.Tree.{view, members_view}
use Rattle.fed_json.proofs.Parts.{as_object_within, get_member_within}
use Rattle.fed_json.proofs.value.Json.take.Goals as goal

pub invariant_of-result : goal.invariant_of-result
invariant_of-result c =
    let members = members_view c.in_ok-members_mut.field-0.now.items in
    let all = as_object_within max_depth (view c.self.inside.value) members c.self.invariant c.in_ok-members_mut.ensures.value in
    get_member_within max_depth c.args.name.now members (view c.in_ok-value.value) all (sym c.in_ok-value.ensures.taken)
