use Rattle.std.proofs.Common.{◌≡◌, ◌≤◌, true, length, refl, sym, subst, ap, ◌∙◌, string_bytes}
use Rattle.std.proofs.lemmas.Str.{is_utf8-from_IsUtf8, IsUtf8-string_bytes}
use Rattle.serde_json.specs.Data.{put}
use Rattle.fed_json.specs.Profile.{MembersAreWithin, members_rise}
use Rattle.fed_json.specs.Places.{Entry}
use Rattle.fed_json.specs.Tree.{view, members_view}
use Rattle.fed_json.proofs.Places.{IsThere, IsGap, rises, put_there, put_at_gap}
use Rattle.fed_json.proofs.Parts.{values_within, values_within-put, members_within_of, members_rise-put}
use Rattle.fed_json.proofs.entries.insert_member.Goals.{in-Ok-insert, in-Err-insert}
use Rattle.fed_json.proofs.entries.insert_member.Goals as goal

pub returns-in-Ok-clause-ok : goal.returns-in-Ok-clause-ok
returns-in-Ok-clause-ok c =
    let name = string_bytes c.args.name in
    let es = c.args.members.now.items in
    let there : IsThere name es c.in-Ok.at = rw (sym c.as_str.ensures.value, sym c.deref.ensures.value) (c.in-Ok.ensures.range, c.in-Ok.ensures.place) in
    let f : Entry = (c.index_mut.result.now.0, c.args.member) in
    put_there name es c.in-Ok.at c.index_mut.result.now f (is_utf8-from_IsUtf8 name (IsUtf8-string_bytes c.args.name)) c.requires there c.index_mut.ensures.value refl

pub returns-in-Ok-clause-within : goal.returns-in-Ok-clause-within
returns-in-Ok-clause-within c n one members =
    let ms = members_view c.args.members.now.items in
    let name = string_bytes c.args.name in
    let text = is_utf8-from_IsUtf8 name (IsUtf8-string_bytes c.args.name) in
    let all = members_within_of n (put name (view c.args.member) ms) (values_within-put n name (view c.args.member) ms one (values_within n ms members)) (members_rise-put name (view c.args.member) ms text one.rising c.requires) in
    subst (MembersAreWithin n) (sym (returns-in-Ok-clause-ok c)) all

pub returns-after-insert-clause-ok : goal.returns-after-insert-clause-ok
returns-after-insert-clause-ok c =
    let name = string_bytes c.args.name in
    let es = c.args.members.now.items in
    let f : Entry = (c.args.name, c.args.member) in
    let rising = subst (λ es. members_rise (members_view es) ≡ true) (sym c.deref.ensures.value) c.requires in
    let gap : IsGap name es c.in-Err.at = rw (sym c.as_str.ensures.value, sym c.deref.ensures.value) (c.in-Err.ensures.place (rises c.as_str.result.now c.deref.result.now rising)) in
    let low : c.in-Err.at ≤ length es = rw (sym c.deref.ensures.value) c.in-Err.ensures.range in
    let put_in = put_at_gap name es c.in-Err.at f refl low gap in
    elim c.match-insert.branch [
      | in-Ok-insert w ↦ rw w.result-is (ap members_view w.in-Ok-insert.ensures.items ∙ put_in)
      | in-Err-insert w ↦ rw w.result-is tt
    ]

pub returns-after-insert-clause-within : goal.returns-after-insert-clause-within
returns-after-insert-clause-within c n one members =
    let ms = members_view c.args.members.now.items in
    let name = string_bytes c.args.name in
    let text = is_utf8-from_IsUtf8 name (IsUtf8-string_bytes c.args.name) in
    let all = members_within_of n (put name (view c.args.member) ms) (values_within-put n name (view c.args.member) ms one (values_within n ms members)) (members_rise-put name (view c.args.member) ms text one.rising c.requires) in
    let done = returns-after-insert-clause-ok c in
    elim c.match-insert.branch [
      | in-Ok-insert w ↦ subst (MembersAreWithin n) (sym (rw w.result-is at done)) all
      | in-Err-insert w ↦ subst (λ es. MembersAreWithin n (members_view es)) (sym w.in-Err-insert.ensures.items) members
    ]
