-- What events that wait lack.
use Rattle.std.proofs.Common.{◌≡◌, ℕ, zero, suc, ◌+◌, ◌≤◌, List, [], ◌∷◌, ◌++◌, length, map, get_or, Bool, true, false, ◌&&◌, ◌||◌, not, cond, find, filter, Option, Some, None, option_map, is_some, nat_lt, refl, sym, ap, ◌∙◌, arith, true≢false}
use Rattle.std.specs.Option.{is_none}
use Rattle.std.specs.List.{position, position_or_len, remove, slice_get, list_all, list_any}
use Rattle.std.proofs.Math.ListN.{set}
use Rattle.std.proofs.lemmas.List.{length-map}
use Rattle.std.proofs.lemmas.Slice.Eq.{bytes_eq-Decides}
use Rattle.fed_event.specs.Checked.{CheckedEvent}
use Rattle.fed_room_contract.specs.declared.graph.Stored.{Stored}
use Rattle.fed_room_contract.specs.Graph.{has_id, id_of, is_stored, is_ready, named_by}
use Rattle.fed_room_contract.specs.LackParts.{tag_of_id, lack_among, lack_of, AreRight}
use Rattle.fed_room_contract.proofs.Apart.{still_not, found_passes}
use Rattle.fed_room_contract.proofs.Filled.{or}
use Rattle.fed_room_contract.proofs.Graphs.{is_stored-++}
use Rattle.fed_room_contract.proofs.Positions.{find-position, is_some-position, is_some-find}

-- ---- lacks that are right

pub right_length : (n tag : ℕ) (rights lacks : List (Option ℕ)) → AreRight n tag rights lacks → length lacks ≡ length rights
right_length n tag [] [] h = refl
right_length n tag [] (l ∷ ls) h = absurd h
right_length n tag (r ∷ rs) [] h = absurd h
right_length zero tag (r ∷ rs) (l ∷ ls) h = ap suc (right_length zero tag rs ls h.1)
right_length (suc n) tag (r ∷ rs) (l ∷ ls) h = ap suc (right_length n tag rs ls h.1)

-- all are, where as many as there are
pub all_right : (n tag : ℕ) (rights lacks : List (Option ℕ)) → AreRight n tag rights lacks → length lacks ≤ n → lacks ≡ rights
all_right n tag [] [] h most = refl
all_right n tag [] (l ∷ ls) h most = absurd h
all_right n tag (r ∷ rs) [] h most = absurd h
all_right zero tag (r ∷ rs) (l ∷ ls) h most = absurd (omega arith)
all_right (suc n) tag (r ∷ rs) (l ∷ ls) h most =
    let rest : ls ≡ rs = all_right n tag rs ls h.1 (omega arith) in
    ap (λ x. x ∷ ls) h.0 ∙ ap (λ xs. r ∷ xs) rest

-- one more is, which is not of the tag
pub one_more_right : (n tag : ℕ) (rights lacks : List (Option ℕ)) → AreRight n tag rights lacks → (get_or lacks n None ≡ Some tag → ⊥) → AreRight (suc n) tag rights lacks
one_more_right n tag [] [] h other = tt
one_more_right n tag [] (l ∷ ls) h other = absurd h
one_more_right n tag (r ∷ rs) [] h other = absurd h
one_more_right zero tag (r ∷ rs) (l ∷ ls) h other = (h.0 other, h.1)
one_more_right (suc n) tag (r ∷ rs) (l ∷ ls) h other = (h.0, one_more_right n tag rs ls h.1 other)

-- one more is, which is set
pub set_right : (n tag : ℕ) (rights lacks : List (Option ℕ)) (lack : Option ℕ) → AreRight n tag rights lacks → lack ≡ get_or rights n lack → AreRight (suc n) tag rights (set lacks n lack)
set_right n tag [] [] lack h is = tt
set_right n tag [] (l ∷ ls) lack h is = absurd h
set_right n tag (r ∷ rs) [] lack h is = absurd h
set_right zero tag (r ∷ rs) (l ∷ ls) lack h is = (is, h.1)
set_right (suc n) tag (r ∷ rs) (l ∷ ls) lack h is = (h.0, set_right n tag rs ls lack h.1 is)

-- ---- what is lacked among some ids

pub lack_among-++ : (xs : List Stored) (ids more : List (List ℕ)) → lack_among xs (ids ++ more) ≡ or (lack_among xs ids) (lack_among xs more)
lack_among-++ xs [] more = refl
lack_among-++ xs (id ∷ ids) more =
    elim (not (is_stored xs id)) as (λ b. option_map tag_of_id (cond b (Some id) (find (λ id. not (is_stored xs id)) (ids ++ more))) ≡ or (option_map tag_of_id (cond b (Some id) (find (λ id. not (is_stored xs id)) ids))) (lack_among xs more))
    [ true ↦ refl | false ↦ lack_among-++ xs ids more ]

pub none_lacked : (xs : List Stored) (ids : List (List ℕ)) → is_none (lack_among xs ids) ≡ list_all (is_stored xs) ids
none_lacked xs [] = refl
none_lacked xs (id ∷ ids) =
    elim (is_stored xs id) as (λ b. is_none (option_map tag_of_id (cond (not b) (Some id) (find (λ id. not (is_stored xs id)) ids))) ≡ (b && list_all (is_stored xs) ids))
    [ true ↦ none_lacked xs ids | false ↦ refl ]

-- an event lacks none exactly where it is ready
pub none_is_ready : (xs : List Stored) (event : CheckedEvent) → is_none (lack_of xs event) ≡ is_ready xs event.event
none_is_ready xs event = none_lacked xs (named_by event.event)

-- the first lack that is none is that of the first event that is ready
pub first_none-ready : (xs : List Stored) (waiting : List CheckedEvent) → position is_none (map (lack_of xs) waiting) ≡ position (λ event. is_ready xs event.event) waiting
first_none-ready xs waiting = (λ i. cond (nat_lt (same waiting i) (length-map waiting (lack_of xs) i)) (Some (same waiting i)) None)
  where
    same : (ws : List CheckedEvent) → position_or_len is_none (map (lack_of xs) ws) ≡ position_or_len (λ event. is_ready xs event.event) ws
    same [] = refl
    same (e ∷ es) = (λ i. cond (not (none_is_ready xs e i)) (1 + same es i) 0)

-- ---- one more is stored

-- what is lacked stays, unless it is of the tag of that one
lack_stays : (xs : List Stored) (s : Stored) (ids : List (List ℕ)) → (lack_among xs ids ≡ Some (tag_of_id (id_of s)) → ⊥) → lack_among xs ids ≡ lack_among (xs ++ s ∷ []) ids
lack_stays xs s [] other = refl
lack_stays xs s (id ∷ ids) other = by (is_stored xs id) refl other (lack_stays xs s ids)
  where
    by : (b : Bool) → is_stored xs id ≡ b → (option_map tag_of_id (cond (not b) (Some id) (find (λ id. not (is_stored xs id)) ids)) ≡ Some (tag_of_id (id_of s)) → ⊥)
        → ((lack_among xs ids ≡ Some (tag_of_id (id_of s)) → ⊥) → lack_among xs ids ≡ lack_among (xs ++ s ∷ []) ids)
        → option_map tag_of_id (cond (not b) (Some id) (find (λ id. not (is_stored xs id)) ids)) ≡ lack_among (xs ++ s ∷ []) (id ∷ ids)
    by true t other later =
        later other ∙ ap (λ b. option_map tag_of_id (cond (not b) (Some id) (find (λ id. not (is_stored (xs ++ s ∷ []) id)) ids))) (sym (is_stored-++ xs (s ∷ []) id t))
    by false t other later =
        ap (λ b. option_map tag_of_id (cond (not b) (Some id) (find (λ id. not (is_stored (xs ++ s ∷ []) id)) ids))) (sym (still_not xs s id t (another (has_id id s) refl other)))
      where
        another : (b : Bool) → has_id id s ≡ b → (Some (tag_of_id id) ≡ Some (tag_of_id (id_of s)) → ⊥) → has_id id s ≡ false
        another false t other = t
        another true t other = absurd (other (ap (λ (i : List ℕ). Some (tag_of_id i)) (sym ((bytes_eq-Decides (id_of s) id).0 t))))

-- so each is right but for those of that tag
pub right_but_one : (xs : List Stored) (s : Stored) (waiting : List CheckedEvent) → AreRight 0 (tag_of_id (id_of s)) (map (lack_of (xs ++ s ∷ [])) waiting) (map (lack_of xs) waiting)
right_but_one xs s [] = tt
right_but_one xs s (e ∷ es) = (lack_stays xs s (named_by e.event), right_but_one xs s es)

-- ---- one less waits

pub map-remove : {A B : Type 0} (f : A → B) (xs : List A) (i : ℕ) → map f (remove xs i) ≡ remove (map f xs) i
map-remove f [] zero = refl
map-remove f [] (suc i) = refl
map-remove f (x ∷ xs) zero = refl
map-remove f (x ∷ xs) (suc i) = ap (λ ys. f x ∷ ys) (map-remove f xs i)

without_passed : (p : CheckedEvent → Bool) (xs : List CheckedEvent) (i : ℕ) (x : CheckedEvent) → slice_get xs i ≡ Some x → p x ≡ true → filter (λ y. not (p y)) (remove xs i) ≡ filter (λ y. not (p y)) xs
without_passed p [] i x at passes = absurd (cc)
without_passed p (y ∷ ys) zero x at passes =
    let same : y ≡ x = cc in
    ap (λ b. cond (not b) (y ∷ filter (λ y. not (p y)) ys) (filter (λ y. not (p y)) ys)) (sym (ap p same ∙ passes))
without_passed p (y ∷ ys) (suc i) x at passes = ap (λ zs. cond (not (p y)) (y ∷ zs) zs) (without_passed p ys i x at passes)

-- without the first that passes, those that do not are the same
pub without_first : (p : CheckedEvent → Bool) (xs : List CheckedEvent) (i : ℕ) → position p xs ≡ Some i → filter (λ y. not (p y)) (remove xs i) ≡ filter (λ y. not (p y)) xs
without_first p xs i h = by (slice_get xs i) refl
  where
    by : (o : Option CheckedEvent) → slice_get xs i ≡ o → filter (λ y. not (p y)) (remove xs i) ≡ filter (λ y. not (p y)) xs
    by (Some x) at = without_passed p xs i x at (found_passes p xs x (find-position p xs i h ∙ at))
    by None at =
        absurd (true≢false (ap is_some (sym h) ∙ is_some-position p xs ∙ sym (is_some-find p xs) ∙ ap is_some (find-position p xs i h ∙ at)))

passes_none : (p : CheckedEvent → Bool) (xs : List CheckedEvent) → list_any p xs ≡ false → filter (λ y. not (p y)) xs ≡ xs
passes_none p [] h = refl
passes_none p (x ∷ xs) h = by (p x) h (passes_none p xs)
  where
    by : (b : Bool) → (b || list_any p xs) ≡ false → (list_any p xs ≡ false → filter (λ y. not (p y)) xs ≡ xs) → cond (not b) (x ∷ filter (λ y. not (p y)) xs) (filter (λ y. not (p y)) xs) ≡ x ∷ xs
    by true h later = absurd (true≢false h)
    by false h later = ap (λ ys. x ∷ ys) (later h)

-- all are left where none passes
pub without_none : (p : CheckedEvent → Bool) (xs : List CheckedEvent) → position p xs ≡ None → filter (λ y. not (p y)) xs ≡ xs
without_none p xs h = passes_none p xs (sym (is_some-position p xs) ∙ ap is_some h)
