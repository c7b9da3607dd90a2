use Rattle.std.proofs.Common.{◌≡◌, ◌+◌, [], ◌∷◌, ◌++◌, take, sym, ap, ◌∙◌, arith}
use Rattle.std.proofs.lemmas.List.{take_more}
use Rattle.fed_json.specs.Tree.{members_view}
use Rattle.fed_json.specs.Places.{Entry, name_of}
use Rattle.fed_json.proofs.Trees.{members_view-after}
use Rattle.fed_json.proofs.tree.+copy.Goals as goal

pub copy_members-loop-name-preserved : goal.copy_members-loop-name-preserved
copy_members-loop-name-preserved t c =
    let l = c.loop-name in
    let all = c.deref-name-items.result.now in
    let e : Entry = c.loop-name-item.result in
    let f : Entry = (c.in_ok-clone.field-0, c.in_ok-copy.field-0) in
    let named : name_of f ≡ name_of e = c.in_ok-clone.ensures.cases in
    let more : take (l.name-index + 1) all ≡ take l.name-index all ++ e ∷ [] = take_more all l.name-index e (omega arith) ∙ ap (λ x. take l.name-index all ++ x ∷ []) (sym c.loop-name-item.is) in
    ap members_view c.in_ok-push.ensures.items ∙ members_view-after l.copies.items f ∙ rw (named, c.in_ok-copy.ensures, l.invariant) (sym (ap members_view more ∙ members_view-after (take l.name-index all) e))
