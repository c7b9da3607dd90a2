-- Where a member stands among others in the order of their names, and what putting one in there, or taking it out, comes to.
use Rattle.std.proofs.Common.{◌≡◌, ℕ, zero, suc, ◌<◌, ◌≤◌, ◌+◌, List, [], ◌∷◌, length, true, false, Some, None, Ordering, Less, Equal, Greater, nat_cmp, refl, sym, subst, ap, ◌∙◌, arith, insert, remove, set}
use Rattle.std.specs.Prelude.{slice_index_or}
use Rattle.std.specs.List.{AllWithin}
use Rattle.std.specs.List.Sorted.{IsSortedBy, IsNonDecreasingBy}
use Rattle.std.specs.Ordering.{ordering_index, is_lt, ordering_reverse}
use Rattle.std.specs.Str.{is_utf8}
use Rattle.std.specs.Cmp.Lexicographic.{slice_cmp, nat_list_cmp_total}
use Rattle.std.proofs.lemmas.Bool.{and_parts}
use Rattle.std.proofs.lemmas.List.Sorted.{searchable_from_sorted}
use Rattle.std.proofs.lemmas.Str.{IsUtf8-from_is_utf8}
use Rattle.serde_json.specs.Data.{Data, Members, no_members, member, put}
use Rattle.serde_json.specs.Find.{get_member}
use Rattle.fed_json.specs.Editing.{drop_member}
use Rattle.fed_json.specs.Profile.{keys_rise, comes_before, comes_before_first, members_rise}
use Rattle.fed_json.specs.Tree.{view, members_view}
use Rattle.std.proofs.lemmas.Cmp.{nat_list_cmp_total as by_bytes, tied_itself}
use Rattle.fed_json.proofs.KeyOrder.{chars_order}
use Rattle.fed_json.proofs.Edited.{less_from, before_later, absent, same_key}
use Rattle.fed_json.specs.Places.{Entry, name_of, asked}

-- the member at i has this name
abbrev pub IsThere : List ℕ → List Entry → ℕ → Type 0
IsThere name es i = (i < length es) × ((d : Entry) → asked name (slice_index_or es i d) ≡ Equal)

-- the names below i come before this one, and those from i on behind it
abbrev pub IsGap : List ℕ → List Entry → ℕ → Type 0
IsGap name es i = AllWithin (λ e. asked name e ≡ Less) es 0 i × AllWithin (λ e. asked name e ≡ Greater) es i (length es)

turned : (s t : List ℕ) → slice_cmp nat_cmp s t ≡ ordering_reverse (slice_cmp nat_cmp t s)
turned s t = nat_list_cmp_total.antisymm s t

later : (e : Entry) (es : List Entry) → members_rise (members_view (e ∷ es)) ≡ true → members_rise (members_view es) ≡ true
later e es rising = (and_parts (keys_rise (view e.1)) _ (and_parts _ _ rising).1).1

first : (e : Entry) (es : List Entry) → members_rise (members_view (e ∷ es)) ≡ true → (is_utf8 (name_of e) ≡ true) × (comes_before_first (name_of e) (members_view es) ≡ true)
first e es rising = and_parts (is_utf8 (name_of e)) _ (and_parts _ _ rising).0

not_less : (e f : Entry) (es : List Entry) → members_rise (members_view (e ∷ f ∷ es)) ≡ true → is_lt (slice_cmp nat_cmp (name_of f) (name_of e)) ≡ false
not_less e f es rising =
    let here = first e (f ∷ es) rising in
    let there = first f es (later e (f ∷ es) rising) in
    let less : slice_cmp nat_cmp (name_of e) (name_of f) ≡ Less = sym (chars_order (name_of e) (name_of f) (IsUtf8-from_is_utf8 _ here.0) (IsUtf8-from_is_utf8 _ there.0)) ∙ less_from _ here.1 in
    ap is_lt (turned (name_of f) (name_of e) ∙ ap ordering_reverse less)

one_more : (k : ℕ) → k + 1 ≡ suc k
one_more k = omega arith

next : (k : ℕ) → suc (suc k) ≡ suc k + 1
next k = omega arith

-- the members as a search takes them
pub ascending : (es : List Entry) → members_rise (members_view es) ≡ true → IsSortedBy (λ a b. is_lt (slice_cmp nat_cmp (name_of a) (name_of b))) es
ascending [] rising k d low high = absurd (omega (arith, high))
ascending (e ∷ []) rising k d low high = absurd (omega (arith, high))
ascending (e ∷ f ∷ es) rising zero d low high = not_less e f es rising
ascending (e ∷ f ∷ es) rising (suc k) d low high =
    let rest = ascending (f ∷ es) (later e (f ∷ es) rising) k d (omega arith) (omega (arith, high)) in
    let P : ℕ → Type 0 = λ n. is_lt (slice_cmp nat_cmp (name_of (slice_index_or (e ∷ f ∷ es) n d)) (name_of (slice_index_or (f ∷ es) k d))) ≡ false in
    let Q : ℕ → Type 0 = λ n. is_lt (slice_cmp nat_cmp (name_of (slice_index_or (f ∷ es) n d)) (name_of (slice_index_or (f ∷ es) k d))) ≡ false in
    let there : P (suc (suc k)) = subst Q (one_more k) rest in
    subst P (next k) there

-- ---- one after another

other_at : (o : Ordering) (name : List ℕ) (e : Entry) (es : List Entry) → slice_cmp nat_cmp name (name_of e) ≡ o → (name_of e ≡ name → ⊥) → get_member name (members_view (e ∷ es)) ≡ get_member name (members_view es)
other_at Less name e es is other = rw is refl
other_at Equal name e es is other = absurd (other (sym (same_key name (name_of e) is)))
other_at Greater name e es is other = rw is refl

pub further : (name : List ℕ) (e : Entry) (es : List Entry) → (name_of e ≡ name → ⊥) → get_member name (members_view (e ∷ es)) ≡ get_member name (members_view es)
further name e es other = other_at _ name e es refl other

pub here : (name : List ℕ) (e : Entry) (es : List Entry) → name_of e ≡ name → get_member name (members_view (e ∷ es)) ≡ Some (view e.1)
here name e es same = rw (same, tied_itself by_bytes name) refl

-- ---- by a search

pub rises : (name : List ℕ) (es : List Entry) → members_rise (members_view es) ≡ true → IsNonDecreasingBy (λ e. ordering_index (asked name e)) es
rises name es rising = searchable_from_sorted nat_list_cmp_total name_of es name (ascending es rising)

-- ---- a member that is there

found_by : (o : Ordering) (name : List ℕ) (e : Entry) (es : List Entry) (d : Data) → slice_cmp nat_cmp name (name_of e) ≡ o → (is_utf8 (name_of e) ≡ true) × (comes_before_first (name_of e) (members_view es) ≡ true)
    → members_rise (members_view es) ≡ true → get_member name (members_view es) ≡ Some d → get_member name (members_view (e ∷ es)) ≡ Some d
found_by Less name e es d is key rising there = rw is there
found_by Greater name e es d is key rising there = rw is there
found_by Equal name e es d is key rising there =
    let none : get_member name (members_view es) ≡ None = rw (same_key name (name_of e) is) (absent (name_of e) (members_view es) key.0 key.1 rising) in
    absurd (cc)

pub found : (name : List ℕ) (es : List Entry) (i : ℕ) (d : Entry) → members_rise (members_view es) ≡ true → IsThere name es i → get_member name (members_view es) ≡ Some (view (slice_index_or es i d).1)
found name [] i d rising there = absurd (omega (arith, there.0))
found name (e ∷ es) zero d rising there =
    let same : name_of e ≡ name = same_key (name_of e) name (there.1 e) in
    let tied : slice_cmp nat_cmp name (name_of e) ≡ Equal = turned name (name_of e) ∙ ap ordering_reverse (there.1 e) in
    rw tied refl
found name (e ∷ es) (suc i) d rising there =
    found_by _ name e es _ refl (first e es rising) (later e es rising) (found name es i d (later e es rising) (omega (arith, there.0), λ d. there.1 d))

-- ---- a member that is not there

other_by : (o : Ordering) (name : List ℕ) (e : Entry) (ms : Members) → slice_cmp nat_cmp name (name_of e) ≡ o → (o ≡ Equal → ⊥) → get_member name ms ≡ None → get_member name (member (name_of e) (view e.1) ms) ≡ None
other_by Less name e ms is other none = rw is none
other_by Equal name e ms is other none = absurd (other refl)
other_by Greater name e ms is other none = rw is none

past : (name : List ℕ) (e : Entry) (es : List Entry) → AllWithin (λ f. asked name f ≡ Greater) (e ∷ es) 0 (length (e ∷ es)) → (slice_cmp nat_cmp name (name_of e) ≡ Less) × AllWithin (λ f. asked name f ≡ Greater) es 0 (length es)
past name e es all = (
  turned name (name_of e) ∙ ap ordering_reverse (all 0 e (omega arith) (omega arith)),
  λ k d low high. all (suc k) d (omega arith) (omega (arith, high)),
)

before : (name : List ℕ) (e : Entry) (es : List Entry) (i : ℕ) → AllWithin (λ f. asked name f ≡ Less) (e ∷ es) 0 (suc i) → (slice_cmp nat_cmp name (name_of e) ≡ Greater) × AllWithin (λ f. asked name f ≡ Less) es 0 i
before name e es i all = (
  turned name (name_of e) ∙ ap ordering_reverse (all 0 e (omega arith) (omega arith)),
  λ k d low high. all (suc k) d (omega arith) (omega (arith, high)),
)

beyond : (name : List ℕ) (e : Entry) (es : List Entry) (i : ℕ) → AllWithin (λ f. asked name f ≡ Greater) (e ∷ es) (suc i) (length (e ∷ es)) → AllWithin (λ f. asked name f ≡ Greater) es i (length es)
beyond name e es i all k d low high = all (suc k) d (omega (arith, low)) (omega (arith, high))

none_past : (name : List ℕ) (es : List Entry) → AllWithin (λ f. asked name f ≡ Greater) es 0 (length es) → get_member name (members_view es) ≡ None
none_past name [] all = refl
none_past name (e ∷ es) all = let parts = past name e es all in other_by Less name e (members_view es) parts.0 (λ h. absurd (cc)) (none_past name es parts.1)

pub not_found : (name : List ℕ) (es : List Entry) (i : ℕ) → IsGap name es i → get_member name (members_view es) ≡ None
not_found name [] i gap = refl
not_found name (e ∷ es) zero gap = none_past name (e ∷ es) gap.1
not_found name (e ∷ es) (suc i) gap =
    let parts = before name e es i gap.0 in
    other_by Greater name e (members_view es) parts.0 (λ h. absurd (cc)) (not_found name es i (parts.1, beyond name e es i gap.1))

-- ---- one more

pub put_at_gap : (name : List ℕ) (es : List Entry) (i : ℕ) (f : Entry) → name_of f ≡ name → i ≤ length es → IsGap name es i → members_view (insert es i f) ≡ put name (view f.1) (members_view es)
put_at_gap name [] zero f named low gap = rw named refl
put_at_gap name [] (suc i) f named low gap = absurd (omega (arith, low))
put_at_gap name (e ∷ es) zero f named low gap = let parts = past name e es gap.1 in rw (named, parts.0) refl
put_at_gap name (e ∷ es) (suc i) f named low gap =
    let parts = before name e es i gap.0 in
    let rest = put_at_gap name es i f named (omega (arith, low)) (parts.1, beyond name e es i gap.1) in
    rw parts.0 (ap (member (name_of e) (view e.1)) rest)

-- a name that stands further on comes behind this one
behind_by : (o : Ordering) (name : List ℕ) (e : Entry) (es : List Entry) (d : Data) → slice_cmp nat_cmp name (name_of e) ≡ o → is_utf8 name ≡ true → (is_utf8 (name_of e) ≡ true) × (comes_before_first (name_of e) (members_view es) ≡ true)
    → members_rise (members_view es) ≡ true → get_member name (members_view es) ≡ Some d → o ≡ Greater
behind_by Greater name e es d is text key rising there = refl
behind_by Equal name e es d is text key rising there =
    let none : get_member name (members_view es) ≡ None = rw (same_key name (name_of e) is) (absent (name_of e) (members_view es) key.0 key.1 rising) in
    absurd (cc)
behind_by Less name e es d is text key rising there =
    let less : comes_before name (name_of e) ≡ true = ap is_lt (chars_order name (name_of e) (IsUtf8-from_is_utf8 _ text) (IsUtf8-from_is_utf8 _ key.0) ∙ is) in
    let none : get_member name (members_view es) ≡ None = absent name (members_view es) text (before_later name (name_of e) (members_view es) less key.1) rising in
    absurd (cc)

behind : (name : List ℕ) (e : Entry) (es : List Entry) (i : ℕ) → is_utf8 name ≡ true → members_rise (members_view (e ∷ es)) ≡ true → IsThere name es i → slice_cmp nat_cmp name (name_of e) ≡ Greater
behind name e es i text rising there =
    let rest = later e es rising in
    behind_by _ name e es _ refl text (first e es rising) rest (found name es i e rest there)

shift : (name : List ℕ) (e : Entry) (es : List Entry) (i : ℕ) → IsThere name (e ∷ es) (suc i) → IsThere name es i
shift name e es i there = (omega (arith, there.0), λ d. there.1 d)

tied : (name : List ℕ) (e : Entry) (es : List Entry) → IsThere name (e ∷ es) 0 → slice_cmp nat_cmp name (name_of e) ≡ Equal
tied name e es there = turned name (name_of e) ∙ ap ordering_reverse (there.1 e)

pub put_there : (name : List ℕ) (es : List Entry) (i : ℕ) (e f : Entry) → is_utf8 name ≡ true → members_rise (members_view es) ≡ true → IsThere name es i → e ≡ slice_index_or es i e → name_of f ≡ name_of e
    → members_view (set es i f) ≡ put name (view f.1) (members_view es)
put_there name [] i e f text rising there is named = absurd (omega (arith, there.0))
put_there name (x ∷ es) zero e f text rising there is named = rw (tied name x es there) (ap (λ k. member k (view f.1) (members_view es)) (named ∙ ap name_of is))
put_there name (x ∷ es) (suc i) e f text rising there is named =
    let rest = shift name x es i there in
    rw (behind name x es i text rising rest) (ap (member (name_of x) (view x.1)) (put_there name es i e f text (later x es rising) rest is named))

-- ---- one less

pub dropped_there : (name : List ℕ) (es : List Entry) (i : ℕ) → is_utf8 name ≡ true → members_rise (members_view es) ≡ true → IsThere name es i → members_view (remove es i) ≡ drop_member name (members_view es)
dropped_there name [] i text rising there = absurd (omega (arith, there.0))
dropped_there name (e ∷ es) zero text rising there = rw (tied name e es there) refl
dropped_there name (e ∷ es) (suc i) text rising there =
    let rest = shift name e es i there in
    rw (behind name e es i text rising rest) (ap (member (name_of e) (view e.1)) (dropped_there name es i text (later e es rising) rest))

dropped_by : (o : Ordering) (name l : List ℕ) (e : Data) (ms : Members) → slice_cmp nat_cmp name l ≡ o → get_member name (member l e ms) ≡ None → (get_member name ms ≡ None → drop_member name ms ≡ ms) → drop_member name (member l e ms) ≡ member l e ms
dropped_by Less name l e ms is none rest = let later : get_member name ms ≡ None = rw is at none in rw is (ap (member l e) (rest later))
dropped_by Equal name l e ms is none rest = let later : Some e ≡ None = rw is at none in absurd (cc)
dropped_by Greater name l e ms is none rest = let later : get_member name ms ≡ None = rw is at none in rw is (ap (member l e) (rest later))

-- what is not there can be dropped
pub dropped_none : (name : List ℕ) (ms : Members) → get_member name ms ≡ None → drop_member name ms ≡ ms
dropped_none name no_members none = refl
dropped_none name (member l e ms) none = dropped_by _ name l e ms refl none (dropped_none name ms)
