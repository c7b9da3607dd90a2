use Rattle.std.proofs.Common.{◌≡◌, true, Some, sym, subst, ap, ◌∙◌}
use Rattle.std.proofs.lemmas.Str.{is_utf8-from_IsUtf8}
use Rattle.fed_json.specs.Editing.{drop_member}
use Rattle.fed_json.specs.Profile.{MembersAreWithin, members_rise}
use Rattle.fed_json.specs.Tree.{view, members_view}
use Rattle.fed_json.proofs.Places.{IsThere, IsGap, rises, found, not_found, dropped_there, dropped_none}
use Rattle.fed_json.proofs.Parts.{values_within, values_within-drop_member, members_within_of, members_rise-drop}
use Rattle.fed_json.proofs.entries.remove_member.Goals as goal

there : (c : goal.After-drop-name) → IsThere c.args.name.now c.args.members.now.items c.in-Ok.at
there c = subst (λ es. IsThere c.args.name.now es c.in-Ok.at) c.deref.ensures.value (c.in-Ok.ensures.range, c.in-Ok.ensures.place)

pub returns-in-Ok-clause-taken : goal.returns-in-Ok-clause-taken
returns-in-Ok-clause-taken c =
    let is = found c.args.name.now c.args.members.now.items c.in-Ok.at c.remove-name.result c.requires (there c) in
    sym (is ∙ ap (λ e. Some (view e.1)) (sym c.remove-name.ensures.value))

pub returns-in-Ok-clause-rest : goal.returns-in-Ok-clause-rest
returns-in-Ok-clause-rest c =
    let text = is_utf8-from_IsUtf8 c.args.name.now c.utf8.name in
    ap members_view c.remove-name.ensures.items ∙ dropped_there c.args.name.now c.args.members.now.items c.in-Ok.at text c.requires (there c)

pub returns-in-Ok-clause-within : goal.returns-in-Ok-clause-within
returns-in-Ok-clause-within c n members =
    let ms = members_view c.args.members.now.items in
    let name = c.args.name.now in
    subst (MembersAreWithin n) (sym (returns-in-Ok-clause-rest c)) (members_within_of n (drop_member name ms) (values_within-drop_member n name ms (values_within n ms members)) (members_rise-drop name ms c.requires))

gap : (c : goal.In-Err) → IsGap c.args.name.now c.args.members.now.items c.in-Err.field-0
gap c = subst (λ es. IsGap c.args.name.now es c.in-Err.field-0) c.deref.ensures.value
    (c.in-Err.ensures.place (rises c.args.name.now c.deref.result.now (subst (λ es. members_rise (members_view es) ≡ true) (sym c.deref.ensures.value) c.requires)))

pub returns-in-Err-clause-taken : goal.returns-in-Err-clause-taken
returns-in-Err-clause-taken c = sym (not_found c.args.name.now c.args.members.now.items c.in-Err.field-0 (gap c))

pub returns-in-Err-clause-rest : goal.returns-in-Err-clause-rest
returns-in-Err-clause-rest c =
    sym (dropped_none c.args.name.now (members_view c.args.members.now.items) (not_found c.args.name.now c.args.members.now.items c.in-Err.field-0 (gap c)))
