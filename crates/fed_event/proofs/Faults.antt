-- The first test that fails, and what a value that fails none is.
use Rattle.std.proofs.Common.{◌≡◌, ℕ, zero, suc, List, [], ◌∷◌, ◌++◌, Bool, true, false, not, cond, Option, Some, None, IsNone, is_none, option_map, unwrap_or, map, find, slice_get, Ok, Err, IsTrue, refl, sym, ◌∙◌, ap, true≢false}
use Rattle.std.specs.Prelude.{is_some}
use Rattle.serde_json.specs.Data.{Data, null}
use Rattle.fed_event.specs.declared.field.Field.{Field}
use Rattle.fed_event.specs.declared.field.Field.TheVariants.{Event, AuthEvents, Content, Depth, Hashes, OriginServerTs, PrevEvents, RoomId, Sender, Signatures, StateKey, «Type»}
use Rattle.fed_event.specs.declared.fault.PduFault.{PduFault}
use Rattle.fed_event.specs.declared.fault.PduFault.TheVariants.{Missing, WrongKind, TooDeep}
use Rattle.fed_event.specs.Fields.{is_needed, value_at}
use Rattle.fed_event.specs.Reading.{event_of}
use Rattle.fed_event.specs.Tests.{part, holds, has_kind, fails, shape_tests, later_tests, all_tests, first_fault_of}

-- ---- groups of tests

-- one of a group fails
pub find_in_group : {X Y : Type 0} (test : Y → Bool) (f : X → Y) (xs : List X) (later : List Y) (x : X) → find (λ y. test (f y)) xs ≡ Some x → find test (map f xs ++ later) ≡ Some (f x)
find_in_group test f [] later x h = absurd (cc)
find_in_group test f (y ∷ ys) later x h =
    elim (test (f y)) as (λ b. cond b (Some y) (find (λ z. test (f z)) ys) ≡ Some x → cond b (Some (f y)) (find test (map f ys ++ later)) ≡ Some (f x))
    [ true ↦ λ is. ap (option_map f) is | false ↦ λ is. find_in_group test f ys later x is ] h

-- none of a group fails
pub find_past_group : {X Y : Type 0} (test : Y → Bool) (f : X → Y) (xs : List X) (later : List Y) → find (λ y. test (f y)) xs ≡ None → find test (map f xs ++ later) ≡ find test later
find_past_group test f [] later h = refl
find_past_group test f (y ∷ ys) later h =
    elim (test (f y)) as (λ b. cond b (Some y) (find (λ z. test (f z)) ys) ≡ None → cond b (Some (f y)) (find test (map f ys ++ later)) ≡ find test later)
    [ true ↦ λ is. absurd (cc) | false ↦ λ is. find_past_group test f ys later is ] h

-- ---- a value that fails no test

-- it passes each
none_at : {X : Type 0} (test : X → Bool) (xs : List X) (i : ℕ) (x : X) → find test xs ≡ None → slice_get xs i ≡ Some x → test x ≡ false
none_at test [] i x h is = absurd (cc)
none_at test (y ∷ ys) zero x h is =
    let same : y ≡ x = cc in
    elim (test y) as (λ b. test y ≡ b → cond b (Some y) (find test ys) ≡ None → test x ≡ false)
    [ true ↦ λ t none. absurd (cc) | false ↦ λ t none. ap test (sym same) ∙ t ] refl h
none_at test (y ∷ ys) (suc i) x h is =
    elim (test y) as (λ b. cond b (Some y) (find test ys) ≡ None → test x ≡ false)
    [ true ↦ λ none. absurd (cc) | false ↦ λ none. none_at test ys i x none is ] h

pub passed : (event : Data) → first_fault_of event ≡ None → (i : ℕ) (fault : PduFault) → slice_get all_tests i ≡ Some fault → fails event fault ≡ false
unfolding first_fault_of
passed event h i fault is = none_at (fails event) all_tests i fault h is

held : (test : Data → Bool) (o : Option Data) → is_none o ≡ false → holds (λ value. not (test value)) o ≡ false → test (unwrap_or o null) ≡ true
held test None there kind = absurd (cc)
held test (Some value) there kind = elim (test value) as (λ b. not b ≡ false → b ≡ true) [ true ↦ λ h. refl | false ↦ λ h. absurd (cc) ] kind

-- a field that no event lacks passes its test and that of its kind
pub passed_both : (event : Data) (field : Field) → first_fault_of event ≡ None → IsTrue (is_needed field) → (fails event (Missing field) ≡ false) × (fails event (WrongKind field) ≡ false)
passed_both event Event h needed = absurd (cc)
passed_both event AuthEvents h needed = (passed event h 3 (Missing AuthEvents) refl, passed event h 13 (WrongKind AuthEvents) refl)
passed_both event Content h needed = (passed event h 4 (Missing Content) refl, passed event h 14 (WrongKind Content) refl)
passed_both event Depth h needed = (passed event h 5 (Missing Depth) refl, passed event h 15 (WrongKind Depth) refl)
passed_both event Hashes h needed = (passed event h 6 (Missing Hashes) refl, passed event h 16 (WrongKind Hashes) refl)
passed_both event OriginServerTs h needed = (passed event h 7 (Missing OriginServerTs) refl, passed event h 17 (WrongKind OriginServerTs) refl)
passed_both event PrevEvents h needed = (passed event h 8 (Missing PrevEvents) refl, passed event h 18 (WrongKind PrevEvents) refl)
passed_both event RoomId h needed = (passed event h 9 (Missing RoomId) refl, passed event h 19 (WrongKind RoomId) refl)
passed_both event Sender h needed = (passed event h 10 (Missing Sender) refl, passed event h 20 (WrongKind Sender) refl)
passed_both event Signatures h needed = (passed event h 11 (Missing Signatures) refl, passed event h 21 (WrongKind Signatures) refl)
passed_both event StateKey h needed = absurd (cc)
passed_both event «Type» h needed = (passed event h 12 (Missing «Type») refl, passed event h 23 (WrongKind «Type») refl)

pub there_passed : (event : Data) (field : Field) → first_fault_of event ≡ None → IsTrue (is_needed field) → is_none (part field event) ≡ false
there_passed event field h needed = (passed_both event field h needed).0

-- what stands there is of its kind
pub kind_passed : (event : Data) (field : Field) → first_fault_of event ≡ None → IsTrue (is_needed field) → has_kind field (value_at field event) ≡ true
kind_passed event field h needed = let both = passed_both event field h needed in held (has_kind field) (part field event) both.0 both.1

-- ---- the tests of the shape come first

pub first-shape : (event : Data) (fault : PduFault) → find (fails event) shape_tests ≡ Some fault → first_fault_of event ≡ Some fault
unfolding first_fault_of
first-shape event fault h = find_in_group (fails event) (λ test. test) shape_tests later_tests fault h

pub first-later : (event : Data) → find (fails event) shape_tests ≡ None → first_fault_of event ≡ find (fails event) later_tests
unfolding first_fault_of
first-later event h = find_past_group (fails event) (λ test. test) shape_tests later_tests h

found_fails : {X : Type 0} (test : X → Bool) (xs : List X) (x : X) → find test xs ≡ Some x → test x ≡ true
found_fails test [] x h = absurd (cc)
found_fails test (y ∷ ys) x h =
    elim (test y) as (λ b. test y ≡ b → cond b (Some y) (find test ys) ≡ Some x → test x ≡ true)
    [ true ↦ λ t is. let same : y ≡ x = cc in ap test (sym same) ∙ t | false ↦ λ t is. found_fails test ys x is ] refl h

no_fault_of_shape : (event : Data) (i : ℕ) (fault : PduFault) → slice_get shape_tests i ≡ Some fault → find (fails event) shape_tests ≡ None → first_fault_of event ≡ Some fault → ⊥
unfolding first_fault_of
no_fault_of_shape event i fault there none first =
    true≢false (sym (found_fails (fails event) all_tests fault first) ∙ none_at (fails event) shape_tests i fault none there)

-- what is first is one fault
pub one_first : (event : Data) (fault other : PduFault) → first_fault_of event ≡ Some fault → first_fault_of event ≡ Some other → fault ≡ other
one_first event fault other h is = ap (λ o. unwrap_or o other) (sym h ∙ is)

pub not_none : (event : Data) (fault : PduFault) → first_fault_of event ≡ Some fault → IsNone (first_fault_of event) → ⊥
not_none event fault h none = true≢false (ap is_some (sym h) ∙ none)

pub not_deep : (event : Data) → find (fails event) shape_tests ≡ None → first_fault_of event ≡ Some TooDeep → ⊥
not_deep event none first = no_fault_of_shape event 0 TooDeep refl none first

pub not_no_object : (event : Data) → find (fails event) shape_tests ≡ None → first_fault_of event ≡ Some (WrongKind Event) → ⊥
not_no_object event none first = no_fault_of_shape event 1 (WrongKind Event) refl none first

-- ---- a value, an event or none

pub event-passed : (value : Data) → first_fault_of value ≡ None → event_of value ≡ Ok value
event-passed value h = ap (λ fault. unwrap_or (option_map Err fault) (Ok value)) h

pub event-failed : (value : Data) (fault : PduFault) → first_fault_of value ≡ Some fault → event_of value ≡ Err fault
event-failed value fault h = ap (λ o. unwrap_or (option_map Err o) (Ok value)) h
