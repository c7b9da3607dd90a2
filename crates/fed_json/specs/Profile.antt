-- The values that Matrix gives a canonical text (appendix "Canonical JSON"): every number is whole and in the range that a
-- double holds exactly, and an object has each key once.
use Rattle.std.specs.Prelude.{◌≡◌, ℕ, ◌≤◌, ◌^◌, ◌-◌, pos, negsuc, List, Bool, true, false, ◌&&◌, nat_lt}
use Rattle.std.specs.Ordering.{nat_cmp, is_lt}
use Rattle.std.specs.Cmp.Lexicographic.{slice_cmp}
use Rattle.std.specs.Str.{chars, is_utf8}
use Rattle.serde_json.specs.Data.{Num, unsigned, negative, float, Data, null, boolean, number, string, array, object, Items, no_items, item, Members, no_members, member, depth, items_depth, members_depth}

-- from -(2 ^ 53) + 1 to 2 ^ 53 - 1; `negsuc n` is -(n + 1)
abbrev pub is_whole : Num → Bool
is_whole (unsigned n) = nat_lt n (2 ^ 53)
is_whole (negative (pos n)) = false
is_whole (negative (negsuc n)) = nat_lt n (2 ^ 53 - 1)
is_whole (float x) = false

abbrev mutual
  pub all_whole : Data → Bool
  all_whole null = true
  all_whole (boolean b) = true
  all_whole (number n) = is_whole n
  all_whole (string s) = true
  all_whole (array ds) = items_whole ds
  all_whole (object ms) = members_whole ms

  pub items_whole : Items → Bool
  items_whole no_items = true
  items_whole (item d ds) = all_whole d && items_whole ds

  pub members_whole : Members → Bool
  members_whole no_members = true
  members_whole (member k d ms) = all_whole d && members_whole ms

-- the first character that differs has the smaller code point, or the key ends first
abbrev pub comes_before : List ℕ → List ℕ → Bool
comes_before k l = is_lt (slice_cmp nat_cmp (chars k) (chars l))

-- the key comes before the first of these, if there is one
abbrev pub comes_before_first : List ℕ → Members → Bool
comes_before_first k no_members = true
comes_before_first k (member l e ms) = comes_before k l

-- each object's keys are UTF-8 and rise strictly
abbrev mutual
  pub keys_rise : Data → Bool
  keys_rise null = true
  keys_rise (boolean b) = true
  keys_rise (number n) = true
  keys_rise (string s) = true
  keys_rise (array ds) = items_rise ds
  keys_rise (object ms) = members_rise ms

  pub items_rise : Items → Bool
  items_rise no_items = true
  items_rise (item d ds) = keys_rise d && items_rise ds

  pub members_rise : Members → Bool
  members_rise no_members = true
  members_rise (member k d ms) = (is_utf8 k && comes_before_first k ms) && (keys_rise d && members_rise ms)

-- a value of the profile
pub record IsProfile (d : Data) : Type 0 where
  pub whole : all_whole d ≡ true
  pub rising : keys_rise d ≡ true

-- a value of the profile that nests at most n deep
pub record IsWithin (n : ℕ) (d : Data) : Type 0 where
  pub whole : all_whole d ≡ true
  pub rising : keys_rise d ≡ true
  pub shallow : depth d ≤ n

pub record AreWithin (n : ℕ) (ds : Items) : Type 0 where
  pub whole : items_whole ds ≡ true
  pub rising : items_rise ds ≡ true
  pub shallow : items_depth ds ≤ n

pub record MembersAreWithin (n : ℕ) (ms : Members) : Type 0 where
  pub whole : members_whole ms ≡ true
  pub rising : members_rise ms ≡ true
  pub shallow : members_depth ms ≤ n
