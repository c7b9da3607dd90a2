-- The servers that the entries of a state join, by their places.
use Rattle.std.proofs.Common.{arith, add-one, zero, ◌⊎◌, inl, inr, suc, ◌≡◌, ℕ, ◌+◌, ◌<◌, ◌≤◌, ◌==◌, List, [], ◌∷◌, ◌++◌, ◌&&◌, ◌||◌, Bool, not, length, map, take, slice_index_or, slice_get, if◌then◌else◌, false, true, Option, Some, None, nat_cmp, bytes_eq, codes, refl, sym, ap, subst, ◌∙◌}
use Rattle.std.specs.FinMap as finite
use Rattle.std.specs.List.{list_any, filter, IsDistinct}
use Rattle.std.specs.List.Sorted.{IsPermutation, IsSortedByKey, IsStrictlyIncreasing}
use Rattle.std.proofs.lemmas.List.Sorted.{IsNonDecreasingBy-from_sort}
use Rattle.std.proofs.lemmas.Map.Views.{any-filter_same}
use Rattle.std.proofs.lemmas.Map.Keys.{IsDistinct-push, IsDistinct-IsPermutation, IsStrictlyIncreasing-from_distinct}
use Rattle.std.proofs.lemmas.Cmp.{nat_eq_equiv}
use Rattle.std.proofs.lemmas.Bool.{false≢true}
use Rattle.std.proofs.lemmas.Bool.Decides.{nat_tests}
use Rattle.std.proofs.lemmas.List.Folds.{list_any-append}
use Rattle.std.proofs.lemmas.List.Quantifiers.{position-Some}
use Rattle.std.proofs.lemmas.Slice.Eq.{bytes_eq-Decides}
use Rattle.std.proofs.Math.Bool.{or-false, and-true}
use Rattle.std.proofs.Math.Seq.{take-suc}
use Rattle.std.proofs.lemmas.Option.{slice_get_cases}
use Rattle.fed_event.specs.Ids.{domain_of}
use Rattle.fed_event.specs.Tests.{holds}
use Rattle.fed_room_contract.specs.declared.graph.Stored.{Stored}
use Rattle.fed_room_contract.specs.State.{StateKey, StateMap}
use Rattle.fed_dest.specs.List.{place_of}
use Rattle.fed_dest.specs.ListParts.{AreInOrder}
use Rattle.fed_dest.specs.ServerSet.{is_among}
use Rattle.fed_dest.specs.Joined.{is_join, joins, is_joined_place}
use Rattle.fed_dest.specs.JoinedParts.{joins_place}
use Rattle.fed_dest.proofs.Lists.{stands_at}

equal_itself : (place : ℕ) → (place == place) ≡ true
equal_itself place = grind (arith, nat_tests)

first_false : (b : Bool) → (true && b && false) ≡ false
first_false true = refl
first_false false = refl

any_alike : {X : Type 0} (p q : X → Bool) (xs : List X) → ((x : X) → p x ≡ q x) → list_any p xs ≡ list_any q xs
any_alike p q [] same = refl
any_alike p q (x ∷ xs) same = ap (λ b. b || list_any p xs) (same x) ∙ ap (λ b. q x || b) (any_alike p q xs same)

-- ---- one entry more

pub any_more : {X : Type 0} (test : X → Bool) (xs : List X) (i : ℕ) (d : X) → i < length xs → list_any test (take (i + 1) xs) ≡ (list_any test (take i xs) || test (slice_index_or xs i d))
any_more test xs i d within =
    ap (list_any test) (ap (λ k. take k xs) (add-one i) ∙ take-suc xs i d within) ∙ list_any-append test (take i xs) (slice_index_or xs i d ∷ []) ∙ ap (λ b. list_any test (take i xs) || b) (or-false (test (slice_index_or xs i d)))

pub pushed : (places : List ℕ) (place other : ℕ) → is_among (places ++ place ∷ []) other ≡ (is_among places other || place == other)
pushed places place other = list_any-append (λ p. p == other) places (place ∷ []) ∙ ap (λ b. is_among places other || b) (or-false (place == other))

-- a place that is among them need not be added
pub there_already : (places : List ℕ) (place other : ℕ) → is_among places place ≡ true → is_among places other ≡ (is_among places other || place == other)
there_already places place other has = by (place == other) refl
  where
    by : (b : Bool) → (place == other) ≡ b → is_among places other ≡ (is_among places other || b)
    by false e = sym (or-false (is_among places other))
    by true e = let same : place ≡ other = grind (arith, nat_tests) in
        let found : is_among places other ≡ true = subst (λ p. is_among places p ≡ true) same has in
        found ∙ sym (ap (λ b. b || true) found)

-- ---- places that are gathered, each once

pub none_apart : (places : List ℕ) → places ≡ [] → IsDistinct ◌==◌ places
unfolding IsDistinct
none_apart places none = let P : List ℕ → Type 0 = λ xs. IsDistinct ◌==◌ xs in subst P (sym none) tt

pub none_among : (places : List ℕ) → places ≡ [] → (place : ℕ) → is_among places place ≡ false
none_among places none place = ap (λ xs. is_among xs place) none

pub one_apart : (before after : List ℕ) (place : ℕ) → after ≡ before ++ place ∷ [] → is_among before place ≡ false → IsDistinct ◌==◌ before → IsDistinct ◌==◌ after
one_apart before after place grown other apart =
    let P : List ℕ → Type 0 = λ xs. IsDistinct ◌==◌ xs in
    subst P (sym grown) (IsDistinct-push nat_eq_equiv before place apart (any_alike (λ x. place == x) (λ x. x == place) before (λ x. nat_eq_equiv.symm place x) ∙ other))

pub same_apart : (before after : List ℕ) → after ≡ before → IsDistinct ◌==◌ before → IsDistinct ◌==◌ after
same_apart before after same apart = let P : List ℕ → Type 0 = λ xs. IsDistinct ◌==◌ xs in subst P (sym same) apart

pub one_among : (before after : List ℕ) (server : ℕ) (o : Option ℕ) → after ≡ before ++ server ∷ [] → o ≡ Some server → (place : ℕ) → is_among after place ≡ (is_among before place || holds (λ other. other == place) o)
one_among before after server o grown is place = ap (λ xs. is_among xs place) grown ∙ pushed before server place ∙ ap (λ v. is_among before place || holds (λ other. other == place) v) (sym is)

pub had_among : (before after : List ℕ) (server : ℕ) (o : Option ℕ) → after ≡ before → is_among before server ≡ true → o ≡ Some server → (place : ℕ) → is_among after place ≡ (is_among before place || holds (λ other. other == place) o)
had_among before after server o same has is place = ap (λ xs. is_among xs place) same ∙ there_already before server place has ∙ ap (λ v. is_among before place || holds (λ other. other == place) v) (sym is)

pub same_among : (before after : List ℕ) (o : Option ℕ) → after ≡ before → o ≡ None → (place : ℕ) → is_among after place ≡ (is_among before place || holds (λ other. other == place) o)
same_among before after o same is place = ap (λ xs. is_among xs place) same ∙ sym (or-false (is_among before place)) ∙ ap (λ v. is_among before place || holds (λ other. other == place) v) (sym is)

pub gathered : {X : Type 0} (test : ℕ → X → Bool) (xs : List X) (i : ℕ) (x : X) (before after : List ℕ) → i < length xs → x ≡ slice_index_or xs i x
    → ((place : ℕ) → is_among before place ≡ list_any (test place) (take i xs)) → ((place : ℕ) → is_among after place ≡ (is_among before place || test place x))
    → (place : ℕ) → is_among after place ≡ list_any (test place) (take (i + 1) xs)
gathered test xs i x before after within is so_far more place =
    more place ∙ ap (λ b. b || test place x) (so_far place) ∙ ap (λ y. list_any (test place) (take i xs) || test place y) is ∙ sym (any_more (test place) xs i x within)

pub sorted_rise : (places sorted : List ℕ) → IsDistinct ◌==◌ places → IsPermutation places sorted → IsSortedByKey (λ x. x) nat_cmp sorted → IsStrictlyIncreasing sorted
sorted_rise places sorted apart moved up =
    IsStrictlyIncreasing-from_distinct sorted (IsNonDecreasingBy-from_sort (λ x. x) sorted up) (IsDistinct-IsPermutation ◌==◌ nat_eq_equiv.symm places sorted moved apart)

-- ---- by the places of the list

none_holds : {X : Type 0} (o : Option X) → holds (λ x. false) o ≡ false
none_holds None = refl
none_holds (Some x) = refl

false_if_not : (b : Bool) → (b ≡ true → ⊥) → b ≡ false
false_if_not false h = refl
false_if_not true h = absurd (h refl)

place_cases : (servers : List (List ℕ)) (name : List ℕ) (place : ℕ) → AreInOrder servers → holds (λ other. other == place) (place_of servers name) ≡ holds (bytes_eq name) (slice_get servers place)
place_cases servers name place rise = by (slice_get_cases servers place).1
  where
    at : (o : Option ℕ) → place_of servers name ≡ o → holds (λ other. other == place) o ≡ true → (place < length servers) × ((d : List ℕ) → slice_index_or servers place d ≡ name)
    at None e h = absurd (false≢true h)
    at (Some i) e h =
        let same : i ≡ place = grind (arith, nat_tests) in
        let P : ℕ → Type 0 = λ k. k < length servers in
        let within : place < length servers = subst P same (position-Some (λ other. bytes_eq other name) servers i [] e).0 in (
          within,
          λ d.
              let Q : ℕ → Type 0 = λ k. bytes_eq (slice_index_or servers k d) name ≡ true in
              (bytes_eq-Decides (slice_index_or servers place d) name).0 (subst Q same (position-Some (λ other. bytes_eq other name) servers i d e).1),
        )

    known : (server : List ℕ) (b : Bool) → bytes_eq name server ≡ b → place < length servers → slice_index_or servers place server ≡ server → holds (λ other. other == place) (place_of servers name) ≡ b
    known server true e within is =
        let same : server ≡ name = sym ((bytes_eq-Decides name server).0 e) in
        ap (holds (λ other. other == place)) (stands_at servers name place server rise within (is ∙ same)) ∙ equal_itself place
    known server false e within is = false_if_not (holds (λ other. other == place) (place_of servers name)) (λ h.
        let same : server ≡ name = sym is ∙ (at (place_of servers name) refl h).1 server in
        false≢true (sym e ∙ (bytes_eq-Decides name server).1 (sym same)))

    by : ((server : List ℕ) × (place < length servers) × (slice_get servers place ≡ Some server) × (slice_index_or servers place server ≡ server)) ⊎ ((length servers ≤ place) × (slice_get servers place ≡ None))
        → holds (λ other. other == place) (place_of servers name) ≡ holds (bytes_eq name) (slice_get servers place)
    by (inl (server, within, is, here)) = known server (bytes_eq name server) refl within here ∙ sym (ap (holds (bytes_eq name)) is)
    by (inr (past, is)) = false_if_not (holds (λ other. other == place) (place_of servers name)) (λ h.
        let within : place < length servers = (at (place_of servers name) refl h).0 in omega arith) ∙ sym (ap (holds (bytes_eq name)) is)

joined_so : (servers : List (List ℕ)) (name : List ℕ) (place : ℕ) (kind join : Bool) → AreInOrder servers
    → holds (λ other. other == place) (if kind && join then place_of servers name else None) ≡ holds (λ server. kind && bytes_eq name server && join) (slice_get servers place)
joined_so servers name place true true rise = place_cases servers name place rise ∙ all_same (slice_get servers place)
  where
    all_same : (o : Option (List ℕ)) → holds (bytes_eq name) o ≡ holds (λ server. true && bytes_eq name server && true) o
    all_same None = refl
    all_same (Some server) = sym (and-true (bytes_eq name server))
joined_so servers name place true false rise = sym (none_of (slice_get servers place))
  where
    none_of : (o : Option (List ℕ)) → holds (λ server. true && bytes_eq name server && false) o ≡ false
    none_of None = refl
    none_of (Some server) = first_false (bytes_eq name server)
joined_so servers name place false join rise = sym (none_holds (slice_get servers place))

any_of : {X Y : Type 0} (test : Y → X → Bool) (o : Option Y) (xs : List X) → list_any (λ x. holds (λ y. test y x) o) xs ≡ holds (λ y. list_any (test y) xs) o
any_of test (Some y) xs = refl
any_of test None [] = refl
any_of test None (x ∷ xs) = any_of test None xs

any-map : {X Y : Type 0} (test : Y → Bool) (f : X → Y) (xs : List X) → list_any test (map f xs) ≡ list_any (λ x. test (f x)) xs
any-map test f [] = refl
any-map test f (x ∷ xs) = ap (λ b. test (f x) || b) (any-map test f xs)

-- the places of all that some entry joins are those of the joined servers
pub all_joined : {X : Type 0} (f : X → StateKey × List ℕ) (events : List Stored) (servers : List (List ℕ)) (state : StateMap) (xs : List X) (place : ℕ) → AreInOrder servers → map f xs ≡ finite.entries state
    → list_any (λ x. joins_place events servers place (f x)) xs ≡ is_joined_place events state servers place
all_joined f events servers state xs place rise whole =
    sym (any-map (joins_place events servers place) f xs) ∙ ap (list_any (joins_place events servers place)) whole
    ∙ any_alike (joins_place events servers place) (λ entry. holds (λ server. joins events server entry) (slice_get servers place)) (finite.entries state)
    (λ entry. joined_so servers (domain_of entry.0.1) place (bytes_eq entry.0.0 (codes "m.room.member")) (is_join events entry.1) rise)
    ∙ any_of (joins events) (slice_get servers place) (finite.entries state)

pub take_all : {X : Type 0} (xs : List X) (n : ℕ) → length xs ≤ n → take n xs ≡ xs
take_all [] zero past = refl
take_all [] (suc n) past = refl
take_all (x ∷ xs) zero past = absurd (omega arith)
take_all (x ∷ xs) (suc n) past = ap (λ ys. x ∷ ys) (take_all xs n (omega arith))

pub without_one : (own place : ℕ) (places : List ℕ) → is_among (filter (λ server. not (server == own)) places) place ≡ (not (place == own) && is_among places place)
without_one own place places = any-filter_same (λ other. other == place) (λ server. not (server == own)) (not (place == own)) (λ k same. ap (λ x. not (x == own)) (equal_are k place same)) places
  where
    equal_are : (a b : ℕ) → (a == b) ≡ true → a ≡ b
    equal_are a b h = grind (arith, nat_tests)
