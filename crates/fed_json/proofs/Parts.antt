-- A part of a value of the profile is one, and so is a value with a member more or less.
use Rattle.std.proofs.Common.{◌≡◌, ℕ, ◌≤◌, List, [], ◌∷◌, true, false, ◌&&◌, Option, Some, Ordering, Less, Equal, Greater, refl, ap, ◌∙◌, arith, nat_cmp}
use Rattle.std.proofs.lemmas.Bool.{and_parts}
use Rattle.std.proofs.lemmas.Str.{IsUtf8-from_is_utf8}
use Rattle.fed_json.specs.Editing.{drop_member, item_after}
use Rattle.std.specs.Ordering.{match_ordering, ordering_reverse, is_lt}
use Rattle.std.specs.Cmp.Lexicographic.{slice_cmp, nat_list_cmp_total}
use Rattle.std.specs.Str.{chars, is_utf8}
use Rattle.serde_json.specs.Data.{Num, unsigned, negative, float, Data, null, boolean, number, string, array, object, Items, no_items, item, Members, no_members, member, depth, items_depth, members_depth, put}
use Rattle.serde_json.specs.Find.{get, get_member, is_float, as_object}
use Rattle.serde_json.specs.Written.{has_float, items_have_float, members_have_float}
use Rattle.serde_json.specs.View.{items_of}
use Rattle.fed_json.specs.JsonRef.{list_of}
use Rattle.fed_json.specs.Profile.{IsWithin, MembersAreWithin, AreWithin, is_whole, all_whole, items_whole, items_rise, members_whole, comes_before, comes_before_first, keys_rise, members_rise}
use Rattle.fed_json.proofs.KeyOrder.{chars_order}
use Rattle.fed_json.proofs.Edited.{before_later}

-- ---- a member of an object, an item of an array

pub first_member_within : (n : ℕ) (k : List ℕ) (d : Data) (ms : Members) → MembersAreWithin n (member k d ms) → IsWithin n d × MembersAreWithin n ms
first_member_within n k d ms h =
    let w = and_parts (all_whole d) _ h.whole in
    let r = and_parts (keys_rise d) _ (and_parts (is_utf8 k && comes_before_first k ms) _ h.rising).1 in
    let low : (depth d ≤ n) × (members_depth ms ≤ n) = (omega (arith, h.shallow), omega (arith, h.shallow)) in
    (record { whole = w.0; rising = r.0; shallow = low.0 }, record { whole = w.1; rising = r.1; shallow = low.1 })

pub first_item_within : (n : ℕ) (d : Data) (ds : Items) → AreWithin n (item d ds) → IsWithin n d × AreWithin n ds
first_item_within n d ds h =
    let w = and_parts (all_whole d) _ h.whole in
    let r = and_parts (keys_rise d) _ h.rising in
    let low : (depth d ≤ n) × (items_depth ds ≤ n) = (omega (arith, h.shallow), omega (arith, h.shallow)) in
    (record { whole = w.0; rising = r.0; shallow = low.0 }, record { whole = w.1; rising = r.1; shallow = low.1 })

found_within : (o : Ordering) (rest : Option Data) (e d : Data) (n : ℕ) → IsWithin n e → (rest ≡ Some d → IsWithin n d) → match_ordering o rest (Some e) rest ≡ Some d → IsWithin n d
found_within Less rest e d n here later is = later is
found_within Equal rest e d n here later is = let same : e ≡ d = cc in rw (← same) here
found_within Greater rest e d n here later is = later is

pub get_member_within : (n : ℕ) (k : List ℕ) (ms : Members) (d : Data) → MembersAreWithin n ms → get_member k ms ≡ Some d → IsWithin n d
get_member_within n k no_members d h is = absurd (cc)
get_member_within n k (member l e ms) d h is =
    let parts = first_member_within n l e ms h in
    found_within (slice_cmp nat_cmp k l) (get_member k ms) e d n parts.0 (λ there. get_member_within n k ms d parts.1 there) is

pub members_within : (n : ℕ) (ms : Members) → IsWithin n (object ms) → MembersAreWithin n ms
members_within n ms h = record { whole = h.whole; rising = h.rising; shallow = omega (arith, h.shallow) }

pub items_within : (n : ℕ) (ds : Items) → IsWithin n (array ds) → AreWithin n ds
items_within n ds h = record { whole = h.whole; rising = h.rising; shallow = omega (arith, h.shallow) }

pub get_within : (n : ℕ) (k : List ℕ) (whole d : Data) → IsWithin n whole → get k whole ≡ Some d → IsWithin n d
get_within n k null d h is = absurd (cc)
get_within n k (boolean b) d h is = absurd (cc)
get_within n k (number x) d h is = absurd (cc)
get_within n k (string s) d h is = absurd (cc)
get_within n k (array ds) d h is = absurd (cc)
get_within n k (object ms) d h is = get_member_within n k ms d (members_within n ms h) is

-- ---- no whole number is a float

no_float : (n : Num) → is_whole n ≡ true → is_float n ≡ false
no_float (unsigned n) h = refl
no_float (negative z) h = refl
no_float (float x) h = absurd (cc)

mutual
  pub has_float-all_whole : (d : Data) → all_whole d ≡ true → has_float d ≡ false
  has_float-all_whole null h = refl
  has_float-all_whole (boolean b) h = refl
  has_float-all_whole (number n) h = no_float n h
  has_float-all_whole (string s) h = refl
  has_float-all_whole (array ds) h = items_have_float-whole ds h
  has_float-all_whole (object ms) h = members_have_float-whole ms h

  items_have_float-whole : (ds : Items) → items_whole ds ≡ true → items_have_float ds ≡ false
  items_have_float-whole no_items h = refl
  items_have_float-whole (item d ds) h =
      let p = and_parts (all_whole d) _ h in
      let a = has_float-all_whole d p.0 in
      let b = items_have_float-whole ds p.1 in
      rw (a, b)

  members_have_float-whole : (ms : Members) → members_whole ms ≡ true → members_have_float ms ≡ false
  members_have_float-whole no_members h = refl
  members_have_float-whole (member k d ms) h =
      let p = and_parts (all_whole d) _ h in
      let a = has_float-all_whole d p.0 in
      let b = members_have_float-whole ms p.1 in
      rw (a, b)

-- ---- an array as the list of its items

pub list_of-items_of : (ds : List Data) → list_of (items_of ds) ≡ ds
list_of-items_of [] = refl
list_of-items_of (d ∷ ds) = ap (λ es. d ∷ es) (list_of-items_of ds)

-- ---- a member more or less

-- each value is within n
abbrev pub ValuesAreWithin : ℕ → Members → Type 0
ValuesAreWithin n no_members = Unit {0}
ValuesAreWithin n (member k d ms) = IsWithin n d × ValuesAreWithin n ms

pub values_within : (n : ℕ) (ms : Members) → MembersAreWithin n ms → ValuesAreWithin n ms
values_within n no_members h = tt
values_within n (member k d ms) h = let parts = first_member_within n k d ms h in (parts.0, values_within n ms parts.1)

-- values within n, under names that rise
pub members_within_of : (n : ℕ) (ms : Members) → ValuesAreWithin n ms → members_rise ms ≡ true → MembersAreWithin n ms
members_within_of n no_members all rising = record { whole = refl; rising = refl; shallow = omega arith }
members_within_of n (member k d ms) all rising =
    let rest = members_within_of n ms all.1 (and_parts (keys_rise d) _ (and_parts (is_utf8 k && comes_before_first k ms) _ rising).1).1 in
    let whole : all_whole d ≡ true = all.0.whole in
    record { whole = rw (whole, rest.whole); rising = rising; shallow = omega (arith, all.0.shallow, rest.shallow) }

put_by : (n : ℕ) (o : Ordering) (a b c : Members) → ValuesAreWithin n a → ValuesAreWithin n b → ValuesAreWithin n c → ValuesAreWithin n (match_ordering o a b c)
put_by n Less a b c x y z = x
put_by n Equal a b c x y z = y
put_by n Greater a b c x y z = z

pub values_within-put : (n : ℕ) (k : List ℕ) (d : Data) (ms : Members) → IsWithin n d → ValuesAreWithin n ms → ValuesAreWithin n (put k d ms)
values_within-put n k d no_members h all = (h, tt)
values_within-put n k d (member l e ms) h all = put_by n (slice_cmp nat_cmp k l) _ _ _ (h, all) (h, all.1) (all.0, values_within-put n k d ms h all.1)

pub values_within-drop_member : (n : ℕ) (k : List ℕ) (ms : Members) → ValuesAreWithin n ms → ValuesAreWithin n (drop_member k ms)
values_within-drop_member n k no_members all = tt
values_within-drop_member n k (member l e ms) all =
    let rest = values_within-drop_member n k ms all.1 in
    put_by n (slice_cmp nat_cmp k l) _ _ _ (all.0, rest) all.1 (all.0, rest)

-- ---- names still rise

before_by : (o : Ordering) (l k : List ℕ) (d : Data) (m : List ℕ) (e : Data) (ms : Members) → comes_before l k ≡ true → comes_before l m ≡ true
    → comes_before_first l (match_ordering o (member k d (member m e ms)) (member m d ms) (member m e (put k d ms))) ≡ true
before_by Less l k d m e ms one two = one
before_by Equal l k d m e ms one two = two
before_by Greater l k d m e ms one two = two

before_put : (l k : List ℕ) (d : Data) (ms : Members) → comes_before l k ≡ true → comes_before_first l ms ≡ true → comes_before_first l (put k d ms) ≡ true
before_put l k d no_members one all = one
before_put l k d (member m e ms) one all = before_by (slice_cmp nat_cmp k m) l k d m e ms one all

rise_by : (o : Ordering) (k : List ℕ) (d : Data) (l : List ℕ) (e : Data) (ms : Members) → slice_cmp nat_cmp k l ≡ o → is_utf8 k ≡ true → keys_rise d ≡ true → members_rise (member l e ms) ≡ true
    → members_rise (put k d ms) ≡ true → members_rise (match_ordering o (member k d (member l e ms)) (member l d ms) (member l e (put k d ms))) ≡ true
rise_by o k d l e ms is text one rising more =
    let parts = and_parts (is_utf8 l && comes_before_first l ms) _ rising in
    let key = and_parts (is_utf8 l) _ parts.0 in
    let rest = and_parts (keys_rise e) _ parts.1 in
    let order = chars_order k l (IsUtf8-from_is_utf8 k text) (IsUtf8-from_is_utf8 l key.0) in
    by o is order key rest
  where
    by : (o : Ordering) → slice_cmp nat_cmp k l ≡ o → slice_cmp nat_cmp (chars k) (chars l) ≡ slice_cmp nat_cmp k l → (is_utf8 l ≡ true) × (comes_before_first l ms ≡ true) → (keys_rise e ≡ true) × (members_rise ms ≡ true)
        → members_rise (match_ordering o (member k d (member l e ms)) (member l d ms) (member l e (put k d ms))) ≡ true
    by Less is order key rest = let first : comes_before k l ≡ true = ap is_lt (order ∙ is) in rw (text, first, one, rising) refl
    by Equal is order key rest = rw (key.0, key.1, one, rest.1) refl
    by Greater is order key rest =
        let first : comes_before l k ≡ true = ap is_lt (nat_list_cmp_total.antisymm (chars l) (chars k) ∙ ap ordering_reverse (order ∙ is)) in
        rw (key.0, before_put l k d ms first key.1, rest.0, more) refl

pub members_rise-put : (k : List ℕ) (d : Data) (ms : Members) → is_utf8 k ≡ true → keys_rise d ≡ true → members_rise ms ≡ true → members_rise (put k d ms) ≡ true
members_rise-put k d no_members text one rising = rw (text, one) refl
members_rise-put k d (member l e ms) text one rising =
    let rest = (and_parts (keys_rise e) _ (and_parts (is_utf8 l && comes_before_first l ms) _ rising).1).1 in
    rise_by _ k d l e ms refl text one rising (members_rise-put k d ms text one rest)

before_drop_by : (o : Ordering) (l k m : List ℕ) (e : Data) (ms : Members) → comes_before l m ≡ true → comes_before_first m ms ≡ true
    → comes_before_first l (match_ordering o (member m e (drop_member k ms)) ms (member m e (drop_member k ms))) ≡ true
before_drop_by Less l k m e ms one all = one
before_drop_by Equal l k m e ms one all = before_later l m ms one all
before_drop_by Greater l k m e ms one all = one

before_drop : (l k : List ℕ) (ms : Members) → comes_before_first l ms ≡ true → members_rise ms ≡ true → comes_before_first l (drop_member k ms) ≡ true
before_drop l k no_members one rising = refl
before_drop l k (member m e ms) one rising =
    let key = and_parts (is_utf8 m) _ (and_parts (is_utf8 m && comes_before_first m ms) _ rising).0 in
    before_drop_by (slice_cmp nat_cmp k m) l k m e ms one key.1

rise_drop_by : (o : Ordering) (k l : List ℕ) (e : Data) (ms : Members) → is_utf8 l ≡ true → comes_before_first l (drop_member k ms) ≡ true → keys_rise e ≡ true → members_rise ms ≡ true → members_rise (drop_member k ms) ≡ true
    → members_rise (match_ordering o (member l e (drop_member k ms)) ms (member l e (drop_member k ms))) ≡ true
rise_drop_by Less k l e ms text first one rising rest = rw (text, first, one, rest) refl
rise_drop_by Equal k l e ms text first one rising rest = rising
rise_drop_by Greater k l e ms text first one rising rest = rw (text, first, one, rest) refl

pub members_rise-drop : (k : List ℕ) (ms : Members) → members_rise ms ≡ true → members_rise (drop_member k ms) ≡ true
members_rise-drop k no_members rising = refl
members_rise-drop k (member l e ms) rising =
    let parts = and_parts (is_utf8 l && comes_before_first l ms) _ rising in
    let key = and_parts (is_utf8 l) _ parts.0 in
    let rest = and_parts (keys_rise e) _ parts.1 in
    rise_drop_by (slice_cmp nat_cmp k l) k l e ms key.0 (before_drop l k ms key.1 rest.1) rest.0 rest.1 (members_rise-drop k ms rest.1)

pub as_object_within : (n : ℕ) (d : Data) (ms : Members) → IsWithin n d → Some ms ≡ as_object d → MembersAreWithin n ms
as_object_within n null ms h is = absurd (cc)
as_object_within n (boolean b) ms h is = absurd (cc)
as_object_within n (number x) ms h is = absurd (cc)
as_object_within n (string s) ms h is = absurd (cc)
as_object_within n (array ds) ms h is = absurd (cc)
as_object_within n (object ns) ms h is = let same : ms ≡ ns = cc in rw same (members_within n ns h)

-- ---- an item more

whole_after : (d : Data) (ds : Items) → all_whole d ≡ true → items_whole ds ≡ true → items_whole (item_after d ds) ≡ true
whole_after d no_items w h = rw w refl
whole_after d (item e ds) w h = let parts = and_parts (all_whole e) _ h in rw (parts.0, whole_after d ds w parts.1) refl

rise_after : (d : Data) (ds : Items) → keys_rise d ≡ true → items_rise ds ≡ true → items_rise (item_after d ds) ≡ true
rise_after d no_items w h = rw w refl
rise_after d (item e ds) w h = let parts = and_parts (keys_rise e) _ h in rw (parts.0, rise_after d ds w parts.1) refl

shallow_after : (n : ℕ) (d : Data) (ds : Items) → depth d ≤ n → items_depth ds ≤ n → items_depth (item_after d ds) ≤ n
shallow_after n d no_items w h = omega (arith, w)
shallow_after n d (item e ds) w h = let rest : items_depth ds ≤ n = omega (arith, h) in omega (arith, h, shallow_after n d ds w rest)

pub within_after : (n : ℕ) (d : Data) (ds : Items) → IsWithin n d → AreWithin n ds → AreWithin n (item_after d ds)
within_after n d ds one all = record {
  whole = whole_after d ds one.whole all.whole;
  rising = rise_after d ds one.rising all.rising;
  shallow = shallow_after n d ds one.shallow all.shallow;
}
