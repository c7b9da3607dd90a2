-- What stands in a value with a member more or less.
use Rattle.std.proofs.Common.{◌≡◌, ℕ, List, true, ◌&&◌, Option, Some, None, Ordering, Less, Equal, Greater, refl, sym, ap, ◌∙◌}
use Rattle.std.specs.Prelude.{IsSome, is_some}
use Rattle.std.specs.Ordering.{nat_cmp, is_eq, is_lt, match_ordering}
use Rattle.std.specs.Str.{chars, is_utf8}
use Rattle.std.specs.Cmp.Lexicographic.{slice_cmp, nat_list_cmp_total}
use Rattle.std.proofs.lemmas.Bool.{and_parts}
use Rattle.std.proofs.lemmas.Str.{IsUtf8-from_is_utf8}
use Rattle.std.proofs.lemmas.Map.Text.{is_eq-slice_cmp}
use Rattle.std.proofs.lemmas.Slice.Eq.{bytes_eq-Decides}
use Rattle.serde_json.specs.Data.{Data, null, boolean, number, string, array, object, Members, no_members, member}
use Rattle.serde_json.specs.Find.{get, get_member, as_object}
use Rattle.serde_json.proofs.Views.{get_member-put, get_member-put_other}
use Rattle.fed_json.specs.Profile.{IsProfile, keys_rise, comes_before, comes_before_first, members_rise}
use Rattle.fed_json.specs.Editing.{with_member, without, drop_member}
use Rattle.fed_json.proofs.KeyOrder.{chars_order}

-- ---- a member more

pub get-with_member : (k : List ℕ) (d v : Data) → IsSome (as_object v) → get k (with_member k d v) ≡ Some d
get-with_member k d null h = absurd (cc)
get-with_member k d (boolean b) h = absurd (cc)
get-with_member k d (number n) h = absurd (cc)
get-with_member k d (string s) h = absurd (cc)
get-with_member k d (array ds) h = absurd (cc)
get-with_member k d (object ms) h = get_member-put k d ms

pub get-with_member_other : (k l : List ℕ) (d v : Data) → (l ≡ k → ⊥) → get l (with_member k d v) ≡ get l v
get-with_member_other k l d null other = refl
get-with_member_other k l d (boolean b) other = refl
get-with_member_other k l d (number n) other = refl
get-with_member_other k l d (string s) other = refl
get-with_member_other k l d (array ds) other = refl
get-with_member_other k l d (object ms) other = get_member-put_other l k d ms other

pub object-with_member : (k : List ℕ) (d v : Data) → is_some (as_object (with_member k d v)) ≡ is_some (as_object v)
object-with_member k d null = refl
object-with_member k d (boolean b) = refl
object-with_member k d (number n) = refl
object-with_member k d (string s) = refl
object-with_member k d (array ds) = refl
object-with_member k d (object ms) = refl

-- ---- a member less

pub less_from : (o : Ordering) → is_lt o ≡ true → o ≡ Less
less_from Less h = refl
less_from Equal h = absurd (cc)
less_from Greater h = absurd (cc)

pub before_later : (k l : List ℕ) (ms : Members) → comes_before k l ≡ true → comes_before_first l ms ≡ true → comes_before_first k ms ≡ true
before_later k l no_members first later = refl
before_later k l (member m e ms) first later = ap is_lt (nat_list_cmp_total.trans (chars k) (chars l) (chars m) (less_from _ first) (less_from _ later))

-- a key that comes before the first of these is none of them
pub absent : (k : List ℕ) (ms : Members) → is_utf8 k ≡ true → comes_before_first k ms ≡ true → members_rise ms ≡ true → get_member k ms ≡ None
absent k no_members text before rising = refl
absent k (member l e ms) text before rising =
    let parts = and_parts (is_utf8 l && comes_before_first l ms) _ rising in
    let key = and_parts (is_utf8 l) _ parts.0 in
    let less : slice_cmp nat_cmp k l ≡ Less = sym (chars_order k l (IsUtf8-from_is_utf8 k text) (IsUtf8-from_is_utf8 l key.0)) ∙ less_from _ before in
    rw less (absent k ms text (before_later k l ms before key.1) (and_parts (keys_rise e) _ parts.1).1)

pub same_key : (k l : List ℕ) → slice_cmp nat_cmp k l ≡ Equal → k ≡ l
same_key k l is = (bytes_eq-Decides k l).0 (sym (is_eq-slice_cmp k l) ∙ ap is_eq is)

dropped_at : (o : Ordering) (k l : List ℕ) (e : Data) (ms : Members) → slice_cmp nat_cmp k l ≡ o → (k ≡ l → get_member k ms ≡ None) → get_member k (drop_member k ms) ≡ None
    → get_member k (match_ordering o (member l e (drop_member k ms)) ms (member l e (drop_member k ms))) ≡ None
dropped_at Less k l e ms is here later = rw is later
dropped_at Equal k l e ms is here later = here (same_key k l is)
dropped_at Greater k l e ms is here later = rw is later

get_member-drop_member : (k : List ℕ) (ms : Members) → members_rise ms ≡ true → get_member k (drop_member k ms) ≡ None
get_member-drop_member k no_members rising = refl
get_member-drop_member k (member l e ms) rising =
    let parts = and_parts (is_utf8 l && comes_before_first l ms) _ rising in
    let key = and_parts (is_utf8 l) _ parts.0 in
    let rest = (and_parts (keys_rise e) _ parts.1).1 in
    dropped_at _ k l e ms refl (λ same. rw same (absent l ms key.0 key.1 rest)) (get_member-drop_member k ms rest)

pub get-without : (k : List ℕ) (v : Data) → IsProfile v → get k (without k v) ≡ None
get-without k null h = refl
get-without k (boolean b) h = refl
get-without k (number n) h = refl
get-without k (string s) h = refl
get-without k (array ds) h = refl
get-without k (object ms) h = get_member-drop_member k ms h.rising

apart : (k l : List ℕ) (o : Ordering) → slice_cmp nat_cmp k l ≡ o → (k ≡ l → ⊥) → (a b : Option Data) → match_ordering o a b a ≡ a
apart k l Less is other a b = refl
apart k l Equal is other a b = absurd (other (same_key k l is))
apart k l Greater is other a b = refl

kept_at : (o : Ordering) (k l q : List ℕ) (e : Data) (ms : Members) → slice_cmp nat_cmp k l ≡ o → (q ≡ k → ⊥) → get_member q (drop_member k ms) ≡ get_member q ms
    → get_member q (match_ordering o (member l e (drop_member k ms)) ms (member l e (drop_member k ms))) ≡ get_member q (member l e ms)
kept_at Less k l q e ms is other later = ap (λ r. match_ordering (slice_cmp nat_cmp q l) r (Some e) r) later
kept_at Equal k l q e ms is other later = sym (apart q l _ refl (λ same. other (same ∙ sym (same_key k l is))) (get_member q ms) (Some e))
kept_at Greater k l q e ms is other later = ap (λ r. match_ordering (slice_cmp nat_cmp q l) r (Some e) r) later

get_member-drop_member_other : (k q : List ℕ) (ms : Members) → (q ≡ k → ⊥) → get_member q (drop_member k ms) ≡ get_member q ms
get_member-drop_member_other k q no_members other = refl
get_member-drop_member_other k q (member l e ms) other = kept_at _ k l q e ms refl other (get_member-drop_member_other k q ms other)

pub get-without_other : (k l : List ℕ) (v : Data) → (l ≡ k → ⊥) → get l (without k v) ≡ get l v
get-without_other k l null other = refl
get-without_other k l (boolean b) other = refl
get-without_other k l (number n) other = refl
get-without_other k l (string s) other = refl
get-without_other k l (array ds) other = refl
get-without_other k l (object ms) other = get_member-drop_member_other k l ms other
