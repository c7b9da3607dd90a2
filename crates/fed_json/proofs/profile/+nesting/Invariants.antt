use Rattle.std.proofs.Common.{◌≡◌, true, max, drop}
use Rattle.std.specs.List.Sorted.{IsStrictlySortedBy}
use Rattle.std.specs.Map.{keys_of}
use Rattle.std.specs.String.{string_cmp}
use Rattle.serde_json.specs.Data.{items_depth, members_depth}
use Rattle.serde_json.specs.View.{items_view, members_view}
use Rattle.fed_json.specs.Profile.{items_whole, members_whole, items_rise, members_rise}
use Rattle.fed_json.proofs.profile.+nesting.Given as goal

-- what is left decides
abbrev pub invariant-items_nesting-loop-item : goal.invariant-items_nesting-loop-item
invariant-items_nesting-loop-item l = record {
  whole : items_whole (items_view l.item-items) ≡ items_whole (items_view (drop l.item-index l.item-items));
  rising : items_rise (items_view (drop l.item-index l.item-items)) ≡ true → items_rise (items_view l.item-items) ≡ true;
  deep : items_depth (items_view l.item-items) ≡ max l.deepest (items_depth (items_view (drop l.item-index l.item-items)));
}

abbrev pub invariant-members_nesting-loop-key : goal.invariant-members_nesting-loop-key
invariant-members_nesting-loop-key l = record {
  whole : members_whole (members_view l.members.entries) ≡ members_whole (members_view l._key-iterator);
  rising : members_rise (members_view l._key-iterator) ≡ true → members_rise (members_view l.members.entries) ≡ true;
  deep : members_depth (members_view l.members.entries) ≡ max l.deepest (members_depth (members_view l._key-iterator));
  sorted : IsStrictlySortedBy string_cmp (keys_of l._key-iterator);
}
