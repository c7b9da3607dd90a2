-- What the sorted map of a value that was read gives.
use Rattle.std.proofs.Common.{◌≡◌, List, [], ◌∷◌, true, Less, nat_cmp, refl, ap, ◌∙◌, string_bytes, string_cmp}
use Rattle.std.proofs.lemmas.Str.{IsUtf8-string_bytes, is_utf8-from_IsUtf8}
use Rattle.std.specs.List.Sorted.{IsStrictlySortedBy}
use Rattle.std.specs.Map.{keys_of}
use Rattle.std.specs.Ordering.{is_lt}
use Rattle.std.specs.Cmp.Lexicographic.{slice_cmp}
use Rattle.std.specs.Str.{is_utf8}
use Rattle.serde_json.specs.View.{view, members_view}
use Rattle.serde_json.proofs.Views.{Entry}
use Rattle.fed_json.specs.Profile.{comes_before_first, keys_rise, members_rise}
use Rattle.fed_json.proofs.KeyOrder.{chars_order}

before_first : (e : Entry) (left : List Entry) → IsStrictlySortedBy string_cmp (keys_of (e ∷ left)) → comes_before_first (string_bytes e.0) (members_view left) ≡ true
unfolding IsStrictlySortedBy
before_first e [] h = refl
before_first e (f ∷ left) h =
    let by_bytes : slice_cmp nat_cmp (string_bytes e.0) (string_bytes f.0) ≡ Less = h.0.0 in
    ap is_lt (chars_order (string_bytes e.0) (string_bytes f.0) (IsUtf8-string_bytes e.0) (IsUtf8-string_bytes f.0) ∙ by_bytes)

pub sorted_rest : (e : Entry) (left : List Entry) → IsStrictlySortedBy string_cmp (keys_of (e ∷ left)) → IsStrictlySortedBy string_cmp (keys_of left)
unfolding IsStrictlySortedBy
sorted_rest e left h = h.1

pub members_rise-sorted : (e : Entry) (left : List Entry) → IsStrictlySortedBy string_cmp (keys_of (e ∷ left)) → keys_rise (view e.1) ≡ true → members_rise (members_view left) ≡ true
    → members_rise (members_view (e ∷ left)) ≡ true
members_rise-sorted e left h a b =
    let first = before_first e left h in
    let text : is_utf8 (string_bytes e.0) ≡ true = is_utf8-from_IsUtf8 (string_bytes e.0) (IsUtf8-string_bytes e.0) in
    rw (text, first, a, b)
