-- A value with a member put into it, or taken out, and an array with an item more.
use Rattle.std.specs.Prelude.{ℕ, List}
use Rattle.std.specs.Ordering.{nat_cmp, match_ordering}
use Rattle.std.specs.Cmp.Lexicographic.{slice_cmp}
use Rattle.serde_json.specs.Data.{Data, null, boolean, number, string, array, object, Items, no_items, item, Members, no_members, member, put}

abbrev pub drop_member : List ℕ → Members → Members
drop_member k no_members = no_members
drop_member k (member l e ms) = match_ordering (slice_cmp nat_cmp k l) (member l e (drop_member k ms)) ms (member l e (drop_member k ms))

-- an object but for the member of this name, and any other value as it is
abbrev pub without : List ℕ → Data → Data
without k null = null
without k (boolean b) = boolean b
without k (number n) = number n
without k (string s) = string s
without k (array ds) = array ds
without k (object ms) = object (drop_member k ms)

-- an object with this value under the name, and any other value as it is
abbrev pub with_member : List ℕ → Data → Data → Data
with_member k d null = null
with_member k d (boolean b) = boolean b
with_member k d (number n) = number n
with_member k d (string s) = string s
with_member k d (array ds) = array ds
with_member k d (object ms) = object (put k d ms)

abbrev pub item_after : Data → Items → Items
item_after d no_items = item d no_items
item_after d (item e ds) = item e (item_after d ds)

-- an array with this item at its end, and any other value as it is
abbrev pub with_item : Data → Data → Data
with_item d null = null
with_item d (boolean b) = boolean b
with_item d (number n) = number n
with_item d (string s) = string s
with_item d (array ds) = array (item_after d ds)
with_item d (object ms) = object ms
