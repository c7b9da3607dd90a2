use Rattle.std.proofs.Common.{◌≡◌, ◌∷◌, ◌++◌, false, drop}
use Rattle.std.specs.Prelude.{IsUtf8}
use Rattle.serde_json.specs.Written.{items_text, members_text}
use Rattle.fed_json.specs.Tree.{items_view, members_view, Begins}
use Rattle.fed_json.proofs.writing.+append.Given as goal

-- what is written, and the text of what is left
abbrev pub invariant-append_items-loop-item : goal.invariant-append_items-loop-item
invariant-append_items-loop-item l = record {
  text : l.out.items ++ items_text l.is_later (items_view (drop l.item-index l.item-items)) ≡ l.fn.out.items ++ 91 ∷ items_text false (items_view l.item-items);
  utf8 : IsUtf8 (items_text l.is_later (items_view (drop l.item-index l.item-items))) → IsUtf8 (91 ∷ items_text false (items_view l.item-items));
  begins : Begins l.fn.out.items l.out.items;
}

abbrev pub invariant-append_members-loop-name : goal.invariant-append_members-loop-name
invariant-append_members-loop-name l = record {
  text : l.out.items ++ members_text l.is_later (members_view (drop l.name-index l.name-items)) ≡ l.fn.out.items ++ 123 ∷ members_text false (members_view l.name-items);
  utf8 : IsUtf8 (members_text l.is_later (members_view (drop l.name-index l.name-items))) → IsUtf8 (123 ∷ members_text false (members_view l.name-items));
  begins : Begins l.fn.out.items l.out.items;
}
