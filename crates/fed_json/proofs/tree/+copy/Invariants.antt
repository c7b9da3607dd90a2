use Rattle.std.proofs.Common.{◌≡◌, map, take}
use Rattle.fed_json.specs.Tree.{view, members_view}
use Rattle.fed_json.proofs.tree.+copy.Given as goal

abbrev pub invariant-copy_items-loop-item : goal.invariant-copy_items-loop-item
invariant-copy_items-loop-item l = map view l.copies.items ≡ map view (take l.item-index l.item-items)

abbrev pub invariant-copy_members-loop-name : goal.invariant-copy_members-loop-name
invariant-copy_members-loop-name l = members_view l.copies.items ≡ members_view (take l.name-index l.name-items)
