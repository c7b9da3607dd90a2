use Rattle.std.proofs.Common.{◌≡◌, ◌+◌, [], ◌∷◌, ◌++◌, drop, false, sym, subst, ap, ◌∙◌, arith}
use Rattle.std.specs.Prelude.{IsUtf8}
use Rattle.std.proofs.lemmas.List.{drop_more, drop_all}
use Rattle.json.specs.Print.{quoted}
use Rattle.json.proofs.Printed.Utf8.{IsUtf8-quoted}
use Rattle.serde_json.specs.Written.{compact_text, items_text, members_text}
use Rattle.fed_json.specs.Places.{Entry, name_of}
use Rattle.fed_json.specs.Tree.{view, items_view, members_view, Begins}
use Rattle.fed_json.proofs.Trees.{view-String}
use Rattle.fed_json.proofs.Written.{on_ok, on_err, begins_later, opened, item_written, member_written, item_utf8, member_utf8, array_utf8, object_utf8, array_end, object_end}
use Rattle.fed_json.proofs.writing.+append.Goals as goal

pub append-returns-in-String-clause-utf8 : goal.append-returns-in-String-clause-utf8
append-returns-in-String-clause-utf8 t c =
    let text : quoted c.as_str.result.now ≡ compact_text (view c.args.tree.now) = ap quoted c.as_str.ensures.value ∙ ap compact_text (sym (view-String c.in-String.text)) ∙ ap (λ v. compact_text (view v)) (sym c.in-String.is) in
    on_ok c.append_quoted.result _ (subst IsUtf8 text (IsUtf8-quoted c.as_str.result.now c.as_str.utf8))

-- ---- arrays

pub append_items-loop-item-init : goal.append_items-loop-item-init
append_items-loop-item-init t c = record {
  text = opened c.args.out.now.items c.push.new.self.items _ 91 c.in_ok-push.ensures.items;
  utf8 = array_utf8 _;
  begins = (91 ∷ [], c.in_ok-push.ensures.items);
}

pub append_items-loop-item-preserved : goal.append_items-loop-item-preserved
append_items-loop-item-preserved t c =
    let l = c.loop-item in
    let all = c.deref-item-items.result.now in
    let x = c.item-item.result in
    let ds = items_view (drop (l.item-index + 1) all) in
    let from : drop l.item-index all ≡ x ∷ drop (l.item-index + 1) all = drop_more all l.item-index x (omega arith) ∙ ap (λ y. y ∷ drop (l.item-index + 1) all) (sym c.item-item.is) in
    let whole = ap (λ ts. l.out.items ++ items_text l.is_later (items_view ts)) (sym from) ∙ l.invariant.text in
    let comma = c.in_ok-append_comma.ensures.ok in
    let item = c.in_ok-append.ensures.ok in
    record {
      text = item_written l.out.items c.append_comma.new.out.items c.append.new.out.items _ l.is_later (view x) ds comma item whole;
      utf8 = λ h. l.invariant.utf8 (subst (λ ts. IsUtf8 (items_text l.is_later (items_view ts))) (sym from) (item_utf8 l.is_later (view x) ds c.in_ok-append.ensures.utf8 h));
      begins = begins_later _ _ _ (begins_later _ _ _ l.invariant.begins (_, comma)) (_, item);
    }

pub append_items-returns-clause-utf8 : goal.append_items-returns-clause-utf8
append_items-returns-clause-utf8 t c =
    let l = c.loop-item in
    let all = c.deref-item-items.result.now in
    let none : drop l.item-index all ≡ [] = drop_all l.item-index all (omega arith) in
    subst (λ ts. IsUtf8 (91 ∷ items_text false (items_view ts))) c.deref-item-items.ensures.value
    (l.invariant.utf8 (subst (λ ts. IsUtf8 (items_text l.is_later (items_view ts))) (sym none) (array_end l.is_later)))

pub append_items-returns-in_err-append-clause-err : goal.append_items-returns-in_err-append-clause-err
append_items-returns-in_err-append-clause-err t c =
    let written = begins_later _ _ _ c.loop-item.invariant.begins (_, c.in_ok-append_comma.ensures.ok) in
    on_err c.from_residual-in_err-append.result _ (begins_later _ _ _ written c.in_err-append.ensures.err)

-- ---- objects

pub append_members-loop-name-init : goal.append_members-loop-name-init
append_members-loop-name-init t c = record {
  text = opened c.args.out.now.items c.push.new.self.items _ 123 c.in_ok-push.ensures.items;
  utf8 = object_utf8 _;
  begins = (123 ∷ [], c.in_ok-push.ensures.items);
}

pub append_members-loop-name-preserved : goal.append_members-loop-name-preserved
append_members-loop-name-preserved t c =
    let l = c.loop-name in
    let all = c.deref-name-items.result.now in
    let e : Entry = c.loop-name-item.result in
    let ms = members_view (drop (l.name-index + 1) all) in
    let from : drop l.name-index all ≡ e ∷ drop (l.name-index + 1) all = drop_more all l.name-index e (omega arith) ∙ ap (λ y. y ∷ drop (l.name-index + 1) all) (sym c.loop-name-item.is) in
    let whole = ap (λ ts. l.out.items ++ members_text l.is_later (members_view ts)) (sym from) ∙ l.invariant.text in
    let comma = c.in_ok-append_comma.ensures.ok in
    let name : c.append_quoted.new.out.items ≡ c.append_comma.new.out.items ++ quoted (name_of e) = c.in_ok-append_quoted.ensures.ok ∙ ap (λ k. c.append_comma.new.out.items ++ quoted k) c.as_str.ensures.value in
    let colon = c.in_ok-push-2.ensures.items in
    let member = c.in_ok-append.ensures.ok in
    let key : IsUtf8 (name_of e) = subst IsUtf8 c.as_str.ensures.value c.as_str.utf8 in
    record {
      text = member_written l.out.items c.append_comma.new.out.items c.append_quoted.new.out.items c.push-in-loop-name.new.self.items c.append.new.out.items _ l.is_later (name_of e) (view e.1) ms comma name colon member whole;
      utf8 = λ h. l.invariant.utf8 (subst (λ ts. IsUtf8 (members_text l.is_later (members_view ts))) (sym from) (member_utf8 l.is_later (name_of e) (view e.1) ms key c.in_ok-append.ensures.utf8 h));
      begins = begins_later _ _ _ (begins_later _ _ _ (begins_later _ _ _ (begins_later _ _ _ l.invariant.begins (_, comma)) (_, name)) (_, colon)) (_, member);
    }

pub append_members-returns-clause-utf8 : goal.append_members-returns-clause-utf8
append_members-returns-clause-utf8 t c =
    let l = c.loop-name in
    let all = c.deref-name-items.result.now in
    let none : drop l.name-index all ≡ [] = drop_all l.name-index all (omega arith) in
    subst (λ ts. IsUtf8 (123 ∷ members_text false (members_view ts))) c.deref-name-items.ensures.value
    (l.invariant.utf8 (subst (λ ts. IsUtf8 (members_text l.is_later (members_view ts))) (sym none) (object_end l.is_later)))

pub append_members-returns-in_err-append_comma-clause-err : goal.append_members-returns-in_err-append_comma-clause-err
append_members-returns-in_err-append_comma-clause-err t c =
    on_err c.from_residual-in_err-append_comma.result _ (subst (Begins c.args.out.now.items) (sym c.in_err-append_comma.ensures.err) c.loop-name.invariant.begins)

pub append_members-returns-in_err-append_quoted-clause-err : goal.append_members-returns-in_err-append_quoted-clause-err
append_members-returns-in_err-append_quoted-clause-err t c =
    let comma = begins_later _ _ _ c.loop-name.invariant.begins (_, c.in_ok-append_comma.ensures.ok) in
    on_err c.from_residual-in_err-append_quoted.result _ (begins_later _ _ _ comma c.in_err-append_quoted.ensures.err)

pub append_members-returns-in_err-push-2-clause-err : goal.append_members-returns-in_err-push-2-clause-err
append_members-returns-in_err-push-2-clause-err t c =
    let comma = begins_later _ _ _ c.loop-name.invariant.begins (_, c.in_ok-append_comma.ensures.ok) in
    let name = begins_later _ _ _ comma (_, c.in_ok-append_quoted.ensures.ok) in
    on_err c.from_residual-in_err-push-2.result _ (subst (Begins c.args.out.now.items) (sym c.in_err-push-2.ensures.items) name)

pub append_members-returns-in_err-append-clause-err : goal.append_members-returns-in_err-append-clause-err
append_members-returns-in_err-append-clause-err t c =
    let comma = begins_later _ _ _ c.loop-name.invariant.begins (_, c.in_ok-append_comma.ensures.ok) in
    let name = begins_later _ _ _ comma (_, c.in_ok-append_quoted.ensures.ok) in
    let colon = begins_later _ _ _ name (_, c.in_ok-push-2.ensures.items) in
    on_err c.from_residual-in_err-append.result _ (begins_later _ _ _ colon c.in_err-append.ensures.err)
