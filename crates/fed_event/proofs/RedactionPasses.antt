-- What passes the tests of an event passes them redacted: no text grows, and no field changes but the content, which stays an object.
use Rattle.std.proofs.Common.{◌≡◌, ◌≢◌, ℕ, ◌+◌, ◌≤◌, ◌<◌, suc, List, [], ◌∷◌, ◌++◌, Bool, true, false, not, cond, Option, Some, None, option_map, option_and_then, IfSome, if◌then◌else◌, is_none, zero, length, find, get_or, nat_lt, nat_cmp, bytes_eq, codes, Ordering, Less, Equal, Greater, refl, sym, ◌∙◌, ap, subst, arith, length-append, lit<, true≢false}
use Rattle.std.proofs.lemmas.Bool.{cond_both}
use Rattle.std.proofs.lemmas.Bool.Decides.{nat_tests}
use Rattle.std.proofs.lemmas.Cmp.{nat_list_cmp_total, tied_itself}
use Rattle.std.proofs.lemmas.Slice.Eq.{bytes_eq-Decides}
use Rattle.std.specs.Ordering.{is_eq, match_ordering}
use Rattle.std.specs.Cmp.Lexicographic.{slice_cmp}
use Rattle.serde_json.specs.Data.{Data, null, boolean, number, string, array, object, Members, no_members, member, depth, members_depth}
use Rattle.serde_json.specs.Find.{as_str, get_member}
use Rattle.json.specs.Print.{quoted}
use Rattle.serde_json.specs.Written.{comma_if, members_text}
use Rattle.fed_json.specs.CanonicalText.{canonical_text}
use Rattle.fed_json.specs.JsonRef.{as_items}
use Rattle.fed_json.specs.Profile.{keys_rise}
use Rattle.fed_event.specs.declared.field.Field.{Field}
use Rattle.fed_event.specs.declared.field.Field.TheVariants.{Event, Content}
use Rattle.fed_event.specs.declared.fault.PduFault.{PduFault}
use Rattle.fed_event.specs.declared.fault.PduFault.TheVariants.{Memory, NotJson, NotCanonical, Missing, WrongKind, TooLarge, TooLong, TooMany, TooDeep}
use Rattle.fed_event.specs.Field.{field_name}
use Rattle.fed_redaction.specs.declared.version.Version.{Version}
use Rattle.fed_redaction.specs.declared.version.Version.TheVariants.{V10, V11}
use Rattle.fed_redaction.specs.Names.{is_one_of, select, member_if, keep, at_name}
use Rattle.fed_redaction.specs.Version.{Kept, event_keys}
use Rattle.fed_redaction.specs.Redaction.{type_of, kept_of, signed_alone, stays_whole, kept_value, kept_content, redacted_members, redacted_in}
use Rattle.fed_event.specs.Tests.{part, is_object, has_kind, most, holds, fails, all_tests, first_fault_of}
use Rattle.fed_redaction.proofs.Building.{IsBelow, Rises, Rises-members_rise}
use Rattle.fed_redaction.proofs.Parts.{members-select, members-keep, signed_alone-depth, kept_value-depth}
use Rattle.fed_redaction.proofs.Redacting.{redacted-kept, redacted-content}
use Rattle.fed_redaction.proofs.Selecting.{same_name, select-at_name}

-- ---- what stays is no longer and no deeper

-- the text is no longer, and the value no deeper
abbrev IsNoLarger : Data → Data → Type 0
IsNoLarger d e = (length (canonical_text d) ≤ length (canonical_text e)) × (depth d ≤ depth e)

joined-length : (c q a r : List ℕ) → length (c ++ (q ++ 58 ∷ (a ++ r))) ≡ length c + (length q + suc (length a + length r))
joined-length c q a r = simp length-append

member-length : (later : Bool) (k : List ℕ) (d : Data) (ms : Members)
    → length (members_text later (member k d ms)) ≡ length (comma_if later) + (length (quoted k) + suc (length (canonical_text d) + length (members_text true ms)))
member-length later k d ms = joined-length (comma_if later) (quoted k) (canonical_text d) (members_text true ms)

text-later : (later : Bool) (ms : Members) → length (members_text later ms) ≤ length (members_text true ms)
text-later true ms = omega arith
text-later false no_members = omega arith
text-later false (member k d ms) = omega arith

text-select : (test : List ℕ → Bool) (later : Bool) (ms : Members) → length (members_text later (select test ms)) ≤ length (members_text later ms)
text-select test later no_members = omega arith
text-select test later (member k d ms) =
    cond_both (test k) (member k d (select test ms)) (select test ms) (λ kept. length (members_text later kept) ≤ length (members_text later (member k d ms)))
    (λ _. omega (arith, text-select test true ms, member-length later k d (select test ms), member-length later k d ms))
    (λ _. omega (arith, text-select test later ms, text-later later ms, member-length later k d ms))

-- f makes no value under this name larger
abbrev GrowsNone : List ℕ → (Data → Data) → Members → Type 0
GrowsNone n f no_members = Unit {0}
GrowsNone n f (member k d ms) = (bytes_eq k n ≡ true → IsNoLarger (f d) d) × GrowsNone n f ms

same-size : (d : Data) → IsNoLarger d d
same-size d = (omega arith, omega arith)

at_name-no_larger : (n : List ℕ) (f : Data → Data) (ms : Members) → GrowsNone n f ms
    → ((later : Bool) → length (members_text later (at_name n f ms)) ≤ length (members_text later ms)) × (members_depth (at_name n f ms) ≤ members_depth ms)
at_name-no_larger n f no_members h = ((λ later. omega arith), omega arith)
at_name-no_larger n f (member k d ms) h =
    let rest = at_name-no_larger n f ms h.1 in
    let here : IsNoLarger (cond (bytes_eq k n) (f d) d) d = cond_both (bytes_eq k n) (f d) d (λ v. IsNoLarger v d) h.0 (λ _. same-size d) in
    let value = cond (bytes_eq k n) (f d) d in (
      (λ later. omega (arith, here.0, rest.0 true, member-length later k value (at_name n f ms), member-length later k d ms)),
      omega (arith, here.1, rest.1),
    )

-- no value that is left is larger
abbrev LeavesNoMore : (List ℕ → Data → Option Data) → Type 0
LeavesNoMore f = (k : List ℕ) (d : Data) → IfSome (f k d) (λ e. IsNoLarger e d)

text-if : (o : Option Data) (later : Bool) (k : List ℕ) (d : Data) (left ms : Members) → IfSome o (λ e. IsNoLarger e d)
    → length (members_text later left) ≤ length (members_text later ms) → length (members_text true left) ≤ length (members_text true ms)
    → length (members_text later (member_if k o left)) ≤ length (members_text later (member k d ms))
text-if None later k d left ms h here rest = omega (arith, here, text-later later ms, member-length later k d ms)
text-if (Some e) later k d left ms h here rest = omega (arith, h.0, rest, member-length later k e left, member-length later k d ms)

text-keep : (f : List ℕ → Data → Option Data) → LeavesNoMore f → (later : Bool) (ms : Members) → length (members_text later (keep f ms)) ≤ length (members_text later ms)
text-keep f h later no_members = omega arith
text-keep f h later (member k d ms) = text-if (f k d) later k d (keep f ms) ms (h k d) (text-keep f h later ms) (text-keep f h true ms)

text-ended : (later : Bool) (ms : Members) → length (members_text later no_members) ≤ length (members_text later ms)
text-ended later no_members = omega arith
text-ended later (member k d ms) = omega (arith, member-length later k d ms)

text-first : (later : Bool) (k : List ℕ) (d : Data) (ms : Members) → length (members_text later (member k d no_members)) ≤ length (members_text later (member k d ms))
text-first later k d ms = omega (arith, text-ended true ms, member-length later k d no_members, member-length later k d ms)

text-at : (o : Ordering) (found : Option Data) (k l : List ℕ) (e : Data) (ms : Members) → (is_eq o ≡ true → k ≡ l)
    → length (members_text false (member_if k found no_members)) ≤ length (members_text false ms)
    → length (members_text false (member_if k (match_ordering o found (Some e) found) no_members)) ≤ length (members_text false (member l e ms))
text-at Less found k l e ms h low = omega (arith, low, text-later false ms, member-length false l e ms)
text-at Equal found k l e ms h low =
    subst (λ name. length (members_text false (member name e no_members)) ≤ length (members_text false (member l e ms))) (sym (h refl)) (text-first false l e ms)
text-at Greater found k l e ms h low = omega (arith, low, text-later false ms, member-length false l e ms)

text-alone : (k : List ℕ) (ms : Members) → length (members_text false (member_if k (get_member k ms) no_members)) ≤ length (members_text false ms)
text-alone k no_members = omega arith
text-alone k (member l e ms) = text-at (slice_cmp nat_cmp k l) (get_member k ms) k l e ms (same_name k l) (text-alone k ms)

signed_alone-no_larger : (d : Data) → IfSome (signed_alone d) (λ e. IsNoLarger e d)
signed_alone-no_larger null = tt
signed_alone-no_larger (boolean b) = tt
signed_alone-no_larger (number n) = tt
signed_alone-no_larger (string s) = tt
signed_alone-no_larger (array ds) = tt
signed_alone-no_larger (object ms) = let text = text-alone (codes "signed") ms in (omega (arith, text), signed_alone-depth (object ms))

kept_value-no_larger : (kept : Kept) → LeavesNoMore (kept_value kept)
kept_value-no_larger kept k d = by (stays_whole kept k) (is_one_of kept.signed k)
  where
    by : (whole part : Bool) → IfSome (if whole then Some d else if part then signed_alone d else None) (λ e. IsNoLarger e d)
    by true part = same-size d
    by false true = signed_alone-no_larger d
    by false false = tt

kept_content-no_larger : (kept : Kept) (d : Data) → is_object d ≡ true → IsNoLarger (kept_content kept d) d
kept_content-no_larger kept null h = absurd (cc)
kept_content-no_larger kept (boolean b) h = absurd (cc)
kept_content-no_larger kept (number n) h = absurd (cc)
kept_content-no_larger kept (string s) h = absurd (cc)
kept_content-no_larger kept (array ds) h = absurd (cc)
kept_content-no_larger kept (object ms) h =
    let text = text-keep (kept_value kept) (kept_value-no_larger kept) false ms in
    let deep = members-keep (kept_value kept) (kept_value-depth kept) ms in
    (omega (arith, text), omega (arith, deep))

-- ---- of members that rise, one at most is the content

absent-below : (k : List ℕ) (ms : Members) → IsBelow k ms → get_member k ms ≡ None
absent-below k no_members h = refl
absent-below k (member l e ms) h = let order = h.0 in rw order (absent-below k ms h.1)

found-later : (o : Ordering) (rest : Option Data) (e d : Data) → (o ≡ Equal → rest ≡ None) → rest ≡ Some d → match_ordering o rest (Some e) rest ≡ Some d
found-later Less rest e d h found = found
found-later Equal rest e d h found = let none = h refl in absurd (cc)
found-later Greater rest e d h found = found

grows-none : (n : List ℕ) (f : Data → Data) (ms : Members) → Rises ms → ((d : Data) → get_member n ms ≡ Some d → IsNoLarger (f d) d) → GrowsNone n f ms
grows-none n f no_members rise h = tt
grows-none n f (member l e ms) rise h =
    let order = slice_cmp nat_cmp n l in
    let at : Ordering → Option Data = λ o. match_ordering o (get_member n ms) (Some e) (get_member n ms) in
    let here : l ≡ n → at order ≡ Some e = λ same. ap at (ap (slice_cmp nat_cmp n) same ∙ tied_itself nat_list_cmp_total n) in
    let absent : order ≡ Equal → get_member n ms ≡ None =
    λ tied. subst (λ k. get_member k ms ≡ None) (sym (same_name n l (ap is_eq tied))) (absent-below l ms rise.0) in (
      (λ is. h e (here ((bytes_eq-Decides l n).0 is))),
      grows-none n f ms rise.1 (λ d found. h d (found-later order (get_member n ms) e d absent found)),
    )

redacted-no_larger : (version : Version) (rule : Kept) (ms : Members) → Rises ms → ((d : Data) → get_member (codes "content") ms ≡ Some d → is_object d ≡ true)
    → IsNoLarger (object (redacted_members version rule ms)) (object ms)
redacted-no_larger version rule ms rise h =
    let content = codes "content" in
    let f = kept_content rule in
    let test = is_one_of (event_keys version) in
    let kept = at_name content f ms in
    let none = grows-none content f ms rise (λ d found. kept_content-no_larger rule d (h d found)) in
    let small = at_name-no_larger content f ms none in
    let same : redacted_members version rule ms ≡ select test kept = sym (select-at_name test content f ms) in
    subst (λ all. IsNoLarger (object all) (object ms)) (sym same)
    (omega (arith, text-select test false kept, small.0 false), omega (arith, members-select test kept, small.1))

-- ---- a test of a field

-- redaction may leave another value in the field, which then is an object
abbrev is_cut : Field → Bool
is_cut Event = true
is_cut Content = true
is_cut field = false

apart : (k l : List ℕ) → bytes_eq k l ≡ false → k ≢ l
apart k l h is = true≢false (sym ((bytes_eq-Decides k l).1 is) ∙ h)

cut-or-none : (kept : Kept) (test : Option Data → Bool) (content : Option Data) → test content ≡ false → ((ms : Members) → test (Some (object ms)) ≡ false) → test (option_map (kept_content kept) content) ≡ false
cut-or-none kept test None h cut = h
cut-or-none kept test (Some d) h cut = cut _

stays : (version : Version) (field : Field) → is_cut field ≡ false → is_one_of (event_keys version) (field_name field) ≡ true
stays V10 Event out = absurd (cc)
stays V10 Content out = absurd (cc)
stays V10 field out = refl
stays V11 Event out = absurd (cc)
stays V11 Content out = absurd (cc)
stays V11 field out = refl

field-passes : (version : Version) (field : Field) (ms : Members) (test : Option Data → Bool) → test (part field (object ms)) ≡ false → (is_cut field ≡ true → (left : Members) → test (Some (object left)) ≡ false)
    → test (part field (redacted_in version (object ms))) ≡ false
field-passes version Event ms test h cut = cut refl _
field-passes version Content ms test h cut = ap test (redacted-content version (object ms)) ∙ cut-or-none (kept_of version (type_of (object ms))) test (part Content (object ms)) h (cut refl)
field-passes version field ms test h cut = ap test (redacted-kept version (object ms) (field_name field) (stays version field refl) (apart (field_name field) (codes "content") refl)) ∙ h

cut-kind : (field : Field) → is_cut field ≡ true → (left : Members) → not (has_kind field (object left)) ≡ false
cut-kind Event h left = refl
cut-kind Content h left = refl
cut-kind field h left = absurd (cc)

-- ---- all tests

not-above : (limit m n : ℕ) → m ≤ n → nat_lt limit n ≡ false → nat_lt limit m ≡ false
not-above limit m n low h = grind (arith, nat_tests)

test-passes : (version : Version) (ms : Members) → IsNoLarger (redacted_in version (object ms)) (object ms) → (test : PduFault) → fails (object ms) test ≡ false
    → fails (redacted_in version (object ms)) test ≡ false
test-passes version ms small Memory h = refl
test-passes version ms small NotJson h = refl
test-passes version ms small NotCanonical h = refl
test-passes version ms small (Missing field) h = field-passes version field ms is_none h (λ _ _. refl)
test-passes version ms small (WrongKind field) h = field-passes version field ms (holds (λ value. not (has_kind field value))) h (cut-kind field)
test-passes version ms small TooLarge h = not-above 65536 _ _ small.0 h
test-passes version ms small (TooLong field) h = field-passes version field ms (λ value. holds (λ s. nat_lt 255 (length s)) (option_and_then as_str value)) h (λ _ _. refl)
test-passes version ms small (TooMany field) h = field-passes version field ms (λ value. holds (λ ids. nat_lt (most field) (length ids)) (option_and_then as_items value)) h (λ _ _. refl)
test-passes version ms small TooDeep h = not-above 100 _ _ small.1 h

first-passes : (failed : Bool) (test : PduFault) (rest : Option PduFault) → cond failed (Some test) rest ≡ None → (failed ≡ false) × (rest ≡ None)
first-passes true test rest h = absurd (cc)
first-passes false test rest h = (refl, h)

passed-at : (failed : PduFault → Bool) (tests : List PduFault) (i : ℕ) (d : PduFault) → find failed tests ≡ None → i < length tests → failed (get_or tests i d) ≡ false
passed-at failed [] i d h within = absurd (omega arith)
passed-at failed (test ∷ tests) zero d h within = (first-passes (failed test) test (find failed tests) h).0
passed-at failed (test ∷ tests) (suc i) d h within = passed-at failed tests i d (first-passes (failed test) test (find failed tests) h).1 (omega arith)

all-pass : (failed fails_now : PduFault → Bool) (tests : List PduFault) → ((test : PduFault) → failed test ≡ false → fails_now test ≡ false) → find failed tests ≡ None → find fails_now tests ≡ None
all-pass failed fails_now [] h passed = refl
all-pass failed fails_now (test ∷ tests) h passed =
    let parts = first-passes (failed test) test (find failed tests) passed in
    let here = h test parts.0 in
    rw here (all-pass failed fails_now tests h parts.1)

not_false : (b : Bool) → not b ≡ false → b ≡ true
not_false true h = refl
not_false false h = absurd (cc)

object-there : (content : Option Data) (d : Data) → holds (λ value. not (is_object value)) content ≡ false → content ≡ Some d → is_object d ≡ true
object-there content d h is = not_false (is_object d) (ap (holds (λ value. not (is_object value))) (sym is) ∙ h)

pub redacted-passes : (version : Version) (d : Data) → keys_rise d ≡ true → first_fault_of d ≡ None → first_fault_of (redacted_in version d) ≡ None
unfolding first_fault_of
redacted-passes version null rise h = h
redacted-passes version (boolean b) rise h = h
redacted-passes version (number n) rise h = h
redacted-passes version (string s) rise h = h
redacted-passes version (array ds) rise h = h
redacted-passes version (object ms) rise h =
    let kind = passed-at (fails (object ms)) all_tests 14 (WrongKind Content) h (lit< tt) in
    let small = redacted-no_larger version (kept_of version (type_of (object ms))) ms (Rises-members_rise ms rise) (λ d is. object-there (part Content (object ms)) d kind is) in
    all-pass (fails (object ms)) (fails (redacted_in version (object ms))) all_tests (test-passes version ms small) h
