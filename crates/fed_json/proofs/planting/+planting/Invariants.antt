use Rattle.std.proofs.Common.{◌≡◌, true, map, ◌++◌}
use Rattle.serde_json.specs.View.{view as read_view, items_view as read_items, members_view as read_members}
use Rattle.fed_json.specs.Profile.{items_whole, members_whole}
use Rattle.fed_json.specs.Tree.{view, members_view}
use Rattle.fed_json.proofs.Trees.{joined}
use Rattle.fed_json.proofs.planting.+planting.Given as goal

-- what is kept, and what is left
abbrev pub invariant-planted_items-loop-item : goal.invariant-planted_items-loop-item
invariant-planted_items-loop-item l = record {
  same : map view l.kept.items ++ map read_view l.item-iterator.rest.items ≡ map read_view l.fn.items.items;
  whole : items_whole (read_items l.item-iterator.rest.items) ≡ true;
}

abbrev pub invariant-planted_members-loop-name : goal.invariant-planted_members-loop-name
invariant-planted_members-loop-name l = record {
  same : joined (members_view l.kept.items) (read_members l.name-iterator) ≡ read_members l.fn.members.entries;
  whole : members_whole (read_members l.name-iterator) ≡ true;
}
