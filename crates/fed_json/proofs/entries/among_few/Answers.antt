use Rattle.std.proofs.Common.{◌≡◌, ◌+◌, ◌∷◌, drop, sym, ap, ◌∙◌, arith}
use Rattle.std.proofs.lemmas.List.{drop_more}
use Rattle.std.specs.Cmp.Lexicographic.{same_text, other_text}
use Rattle.serde_json.specs.Find.{get_member}
use Rattle.fed_json.specs.Places.{Entry, name_of}
use Rattle.fed_json.specs.Tree.{members_view}
use Rattle.fed_json.proofs.Places.{here, further}
use Rattle.fed_json.proofs.entries.among_few.Goals as goal

pub returns-then-is_named : goal.returns-then-is_named
returns-then-is_named c =
    let all = c.args.members.now in
    let i = c.loop-other.other-index in
    let e : Entry = c.loop-other-item.result in
    let name = c.args.name.now in
    let from : drop i all ≡ e ∷ drop (i + 1) all = drop_more all i e (omega arith) ∙ ap (λ x. x ∷ drop (i + 1) all) (sym c.loop-other-item.is) in
    let same : name_of e ≡ name = same_text _ _ (sym c.if-is_named.true ∙ c.is_named.ensures) in
    sym (c.loop-other.invariant ∙ ap (λ es. get_member name (members_view es)) from ∙ here name e (drop (i + 1) all) same)

pub loop-other-preserved : goal.loop-other-preserved
loop-other-preserved c =
    let all = c.args.members.now in
    let i = c.loop-other.other-index in
    let e : Entry = c.loop-other-item.result in
    let name = c.args.name.now in
    let from : drop i all ≡ e ∷ drop (i + 1) all = drop_more all i e (omega arith) ∙ ap (λ x. x ∷ drop (i + 1) all) (sym c.loop-other-item.is) in
    let other = λ (h : name_of e ≡ name). other_text _ _ (sym c.if-is_named.false ∙ c.is_named.ensures) h in
    c.loop-other.invariant ∙ ap (λ es. get_member name (members_view es)) from ∙ further name e (drop (i + 1) all) other
