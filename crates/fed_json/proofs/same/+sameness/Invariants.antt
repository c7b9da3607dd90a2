use Rattle.std.proofs.Common.{◌≡◌, ◌↔◌, drop}
use Rattle.std.specs.Slice.Iter.{iter_rest}
use Rattle.fed_json.specs.Tree.{items_view, members_view}
use Rattle.fed_json.proofs.same.+sameness.Given as goal

-- what is left decides
abbrev pub invariant-are_same_items-loop-item : goal.invariant-are_same_items-loop-item
invariant-are_same_items-loop-item l = (items_view l.items.items ≡ items_view l.others.items) ↔ (items_view (drop l.item-index l.items.items) ≡ items_view (iter_rest l.rest))

abbrev pub invariant-are_same_members-loop-name : goal.invariant-are_same_members-loop-name
invariant-are_same_members-loop-name l = (members_view l.members.items ≡ members_view l.others.items) ↔ (members_view (drop l.name-index l.members.items) ≡ members_view (iter_rest l.rest))
