-- The places of the auth events of stored events, as a graph grows.
use Rattle.std.proofs.Common.{◌≡◌, ◌<◌, ◌≤◌, ℕ, suc, List, [], ◌∷◌, ◌++◌, append_assoc, Bool, true, false, true≢false, not, ◌||◌, ◌+◌, cond, nat_lt, All, Option, None, Some, is_some, length, map, take, drop, get_or, refl, sym, ap, subst, ◌∙◌, ◌⊎◌, inl, inr, arith}
use Rattle.std.specs.List.{position, position_or_len, list_any, list_all, filter_map, cons_option, slice_get, AllByRecursion}
use Rattle.std.proofs.lemmas.Bool.{and_parts, lt-ltb, false_from_ne_true}
use Rattle.std.proofs.lemmas.List.{get_or-map, get_or_past, get_or-take, length-map, map-append, take-append-drop}
use Rattle.std.proofs.lemmas.List.Sums.{position_or_len_is}
use Rattle.std.proofs.lemmas.Slice.Eq.{bytes_eq-Decides}
use Rattle.std.proofs.lemmas.List.Elements.{All-from_recursion}
use Rattle.std.proofs.lemmas.List.Folds.{list_any_at}
use Rattle.std.proofs.lemmas.Option.{slice_get_cases}
use Rattle.std.proofs.Math.ListN.{length-take}
use Rattle.std.proofs.Math.Seq.{drop-cons}
use Rattle.fed_event.specs.Fields.{auth_events_of}
use Rattle.fed_room_contract.specs.declared.graph.Stored.{Stored}
use Rattle.fed_room_contract.specs.Places.{PlaceMap, place_at}
use Rattle.fed_room_contract.specs.Graph.{IsAuthGraph, IsAuthNext, has_id, id_of, is_stored, has_auths, places_of, links_in, auth_links}
use Rattle.fed_room_contract.proofs.Filled.{or}
use Rattle.fed_room_contract.proofs.Graphs.{auths_stay}
use Rattle.fed_room_contract.proofs.Positions.{is_some-position, position-push}

-- ---- one more event

kept : (o other : Option ℕ) → is_some o ≡ true → or o other ≡ o
kept None other h = absurd (cc)
kept (Some place) other h = refl

same_place : (xs : List Stored) (last : Stored) (id : List ℕ) → is_stored xs id ≡ true → position (has_id id) (xs ++ last ∷ []) ≡ position (has_id id) xs
same_place xs last id h =
    position-push (has_id id) xs last ∙ kept (position (has_id id) xs) (cond (has_id id last) (Some (length xs)) None) (is_some-position (has_id id) xs ∙ h)

same_places : (xs : List Stored) (last : Stored) (ids : List (List ℕ)) → list_all (is_stored xs) ids ≡ true → places_of (xs ++ last ∷ []) ids ≡ places_of xs ids
same_places xs last [] h = refl
same_places xs last (id ∷ ids) h =
    let parts = and_parts (is_stored xs id) (list_all (is_stored xs) ids) h in
    λ i. cons_option (same_place xs last id parts.0 i) (same_places xs last ids parts.1 i)

map-agree : (f g : Stored → List ℕ) (xs : List Stored) → AllByRecursion (λ s. f s ≡ g s) xs → map f xs ≡ map g xs
map-agree f g [] all = refl
map-agree f g (x ∷ xs) all = λ i. all.0 i ∷ map-agree f g xs all.1 i

all-more : {X : Type 0} (P Q : X → Type 0) → ((x : X) → P x → Q x) → (xs : List X) → AllByRecursion P xs → AllByRecursion Q xs
all-more P Q f [] all = tt
all-more P Q f (x ∷ xs) all = (f x all.0, all-more P Q f xs all.1)

-- ---- places in front

first_in_front : (test : Stored → Bool) (front back : List Stored) → list_any test front ≡ true → position_or_len test (front ++ back) < length front
first_in_front test [] back h = absurd (cc)
first_in_front test (x ∷ front) back h = by (first_in_front test front back) (test x) h
  where
    by : (list_any test front ≡ true → position_or_len test (front ++ back) < length front) → (b : Bool) → (b || list_any test front) ≡ true → cond (not b) (1 + position_or_len test (front ++ back)) 0 < length (x ∷ front)
    by others true h = omega arith
    by others false h = let rest = others h in omega arith

placed : (b : Bool) (n m : ℕ) (rest : List ℕ) → n < m → AllByRecursion (λ a. a < m) rest → AllByRecursion (λ a. a < m) (cons_option (cond b (Some n) None) rest)
placed true n m rest below all = (below, all)
placed false n m rest below all = all

in_front : (front back : List Stored) (ids : List (List ℕ)) → list_all (is_stored front) ids ≡ true → AllByRecursion (λ a. a < length front) (places_of (front ++ back) ids)
in_front front back [] h = tt
in_front front back (id ∷ ids) h =
    let parts = and_parts (is_stored front id) (list_all (is_stored front) ids) h in
    placed (nat_lt (position_or_len (has_id id) (front ++ back)) (length (front ++ back))) (position_or_len (has_id id) (front ++ back)) (length front) (places_of (front ++ back) ids)
    (first_in_front (has_id id) front back parts.0) (in_front front back ids parts.1)

-- ---- the auth events of stored events

all_stored : (whole before rest : List Stored) → IsAuthGraph whole → whole ≡ before ++ rest → AllByRecursion (λ s. list_all (is_stored whole) (auth_events_of s.event.event) ≡ true) rest
all_stored whole before [] graph e = tt
all_stored whole before (s ∷ rest) graph e = (
  ap (λ es. has_auths es s.event.event) e ∙ auths_stay before (s ∷ rest) s.event.event (graph.each before s rest e).auths,
  all_stored whole (before ++ s ∷ []) rest graph (e ∙ sym (append_assoc before (s ∷ []) rest)),
)

pub auths-more : (xs : List Stored) (last : Stored) (places : PlaceMap) → IsAuthGraph xs → IsAuthNext xs last → ((id : List ℕ) → place_at places id ≡ position (has_id id) xs)
    → map (auth_links xs) xs ++ filter_map (place_at places) (auth_events_of last.event.event) ∷ [] ≡ map (auth_links (xs ++ last ∷ [])) (xs ++ last ∷ [])
auths-more xs last places graph next entered =
    (λ i. map (auth_links xs) xs ++ filter_map (λ id. entered id i) (auth_events_of last.event.event) ∷ [])
    ∙ (λ i. sym (map-agree (auth_links (xs ++ last ∷ [])) (auth_links xs) xs
    (all-more (λ s. list_all (is_stored xs) (auth_events_of s.event.event) ≡ true) (λ s. auth_links (xs ++ last ∷ []) s ≡ auth_links xs s) (λ s h. same_places xs last (auth_events_of s.event.event) h) xs (all_stored xs [] xs graph refl))) i
    ++ sym (same_places xs last (auth_events_of last.event.event) next.auths) i ∷ [])
    ∙ sym (map-append (auth_links (xs ++ last ∷ [])) xs (last ∷ []))

-- the list of the event at a place
pub auths-at : (xs : List Stored) (place : ℕ) → get_or (map (auth_links xs) xs) place [] ≡ links_in (auth_links xs) (slice_get xs place)
auths-at xs place = by (slice_get_cases xs place).1
  where
    by : ((x : Stored) × (place < length xs) × (slice_get xs place ≡ Some x) × (get_or xs place x ≡ x)) ⊎ ((length xs ≤ place) × (slice_get xs place ≡ None)) → get_or (map (auth_links xs) xs) place [] ≡ links_in (auth_links xs) (slice_get xs place)
    by (inl (x, inside, some, here)) = get_or-map (auth_links xs) xs place x [] inside ∙ ap (auth_links xs) here ∙ sym (ap (links_in (auth_links xs)) some)
    by (inr (past, none)) = let long = length-map xs (auth_links xs) in get_or_past (map (auth_links xs) xs) place [] (omega arith) ∙ sym (ap (links_in (auth_links xs)) none)

before-all : (xs : List Stored) (place : ℕ) → IsAuthGraph xs → AllByRecursion (λ a. a < place) (links_in (auth_links xs) (slice_get xs place)) × AllByRecursion (λ a. a < length xs) (links_in (auth_links xs) (slice_get xs place))
before-all xs place graph = by (slice_get_cases xs place).1
  where
    by : ((x : Stored) × (place < length xs) × (slice_get xs place ≡ Some x) × (get_or xs place x ≡ x)) ⊎ ((length xs ≤ place) × (slice_get xs place ≡ None))
        → AllByRecursion (λ a. a < place) (links_in (auth_links xs) (slice_get xs place)) × AllByRecursion (λ a. a < length xs) (links_in (auth_links xs) (slice_get xs place))
    by (inr (past, none)) =
        (subst (λ o. AllByRecursion (λ a. a < place) (links_in (auth_links xs) o)) (sym none) tt, subst (λ o. AllByRecursion (λ a. a < length xs) (links_in (auth_links xs) o)) (sym none) tt)
    by (inl (x, inside, some, here)) = (
      subst (λ o. AllByRecursion (λ a. a < place) (links_in (auth_links xs) o)) (sym some) all,
      subst (λ o. AllByRecursion (λ a. a < length xs) (links_in (auth_links xs) o)) (sym some) (all-more (λ a. a < place) (λ a. a < length xs) (λ a h. omega arith) (auth_links xs x) all),
    )
      where
        split : xs ≡ take place xs ++ x ∷ drop (suc place) xs
        split = sym (take-append-drop place xs) ∙ ap (λ r. take place xs ++ r) (drop-cons xs place x inside ∙ ap (λ y. y ∷ drop (suc place) xs) here)

        long : length (take place xs) ≡ place
        long = omega (arith, length-take place xs)

        all : AllByRecursion (λ a. a < place) (auth_links xs x)
        all =
            subst (λ (n : ℕ). AllByRecursion (λ a. a < n) (auth_links xs x)) long
            (subst (λ (es : List Stored). AllByRecursion (λ a. a < length (take place xs)) (places_of es (auth_events_of x.event.event))) (sym split)
            (in_front (take place xs) (x ∷ drop (suc place) xs) (auth_events_of x.event.event) (graph.each (take place xs) x (drop (suc place) xs) split).auths))

pub auths-before : (xs : List Stored) (place : ℕ) → IsAuthGraph xs → All (λ a. a < place) (links_in (auth_links xs) (slice_get xs place))
auths-before xs place graph = All-from_recursion (λ a. a < place) (links_in (auth_links xs) (slice_get xs place)) (before-all xs place graph).0

pub auths-within : (xs : List Stored) (place : ℕ) → IsAuthGraph xs → All (λ a. a < length xs) (links_in (auth_links xs) (slice_get xs place))
auths-within xs place graph = All-from_recursion (λ a. a < length xs) (links_in (auth_links xs) (slice_get xs place)) (before-all xs place graph).1

-- ---- an event at a place

-- the event that stands at a place is the first of its id
pub place_known : (xs : List Stored) (place : ℕ) (s : Stored) (id : List ℕ) → IsAuthGraph xs → slice_get xs place ≡ Some s → has_id id s ≡ true → position (has_id id) xs ≡ Some place
place_known xs place s id graph there has = by (slice_get_cases xs place).1
  where
    by : ((x : Stored) × (place < length xs) × (slice_get xs place ≡ Some x) × (get_or xs place x ≡ x)) ⊎ ((length xs ≤ place) × (slice_get xs place ≡ None)) → position (has_id id) xs ≡ Some place
    by (inr (past, none)) = absurd (cc)
    by (inl (x, inside, some, here)) = ap (λ n. cond (nat_lt n (length xs)) (Some n) None) first ∙ ap (λ b. cond b (Some place) None) (lt-ltb place (length xs) inside)
      where
        same : x ≡ s
        same = let both = sym some ∙ there in cc

        is : has_id id x ≡ true
        is = ap (has_id id) same ∙ has

        split : xs ≡ take place xs ++ x ∷ drop (suc place) xs
        split = sym (take-append-drop place xs) ∙ ap (λ r. take place xs ++ r) (drop-cons xs place x inside ∙ ap (λ y. y ∷ drop (suc place) xs) here)

        new : is_stored (take place xs) id ≡ false
        new = subst (λ i. is_stored (take place xs) i ≡ false) ((bytes_eq-Decides (id_of x) id).0 is) (graph.each (take place xs) x (drop (suc place) xs) split).new

        long : length (take place xs) ≡ place
        long = omega (arith, length-take place xs)

        others : (k : ℕ) → k < place → has_id id (get_or xs k x) ≡ false
        others k less =
            false_from_ne_true (has_id id (get_or xs k x))
            (λ t. true≢false (sym (list_any_at (has_id id) (take place xs) k x (omega (arith, less, long)) (ap (has_id id) (get_or-take place xs k x (omega (arith, less))) ∙ t)) ∙ new))

        first : position_or_len (has_id id) xs ≡ place
        first = position_or_len_is (has_id id) xs place x (omega (arith, inside)) others (λ less. ap (has_id id) here ∙ is)
