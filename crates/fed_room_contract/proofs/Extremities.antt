-- The forward extremities with one more event.
use Rattle.std.proofs.Common.{◌≡◌, ℕ, List, [], ◌∷◌, ◌++◌, map, filter, Bool, true, false, ◌&&◌, ◌||◌, not, cond, if◌then◌else◌, refl, sym, ap, ◌∙◌, subst, true≢false}
use Rattle.std.proofs.lemmas.List.{map-append}
use Rattle.std.proofs.lemmas.List.Elements.{filter-append}
use Rattle.std.proofs.lemmas.List.Folds.{list_any-append}
use Rattle.std.proofs.lemmas.Slice.Eq.{bytes_eq-Decides}
use Rattle.std.specs.List.{list_any, list_all}
use Rattle.std.specs.Str.{bytes_eq}
use Rattle.fed_event.specs.Event.{Event}
use Rattle.fed_event.specs.Fields.{prev_events_of}
use Rattle.fed_room_contract.specs.declared.graph.Stored.{Stored}
use Rattle.fed_room_contract.specs.Graph.{IsGraph, IsNext, id_of, is_stored, is_ready}
use Rattle.fed_room_contract.specs.Room.{is_accepted, names, follows, extremities_of}
use Rattle.fed_room_contract.proofs.Graphs.{ready_stays}

-- ---- an event that is ready names no event that is not stored

no_name : (xs : List Stored) (id : List ℕ) (ids more : List (List ℕ)) → list_all (is_stored xs) (ids ++ more) ≡ true → is_stored xs id ≡ false → list_any (λ prev. bytes_eq prev id) ids ≡ false
no_name xs id [] more h new = refl
no_name xs id (i ∷ ids) more h new = by (bytes_eq i id) refl (is_stored xs i) refl h (no_name xs id ids more)
  where
    by : (b : Bool) → bytes_eq i id ≡ b → (s : Bool) → is_stored xs i ≡ s → (s && list_all (is_stored xs) (ids ++ more)) ≡ true
        → (list_all (is_stored xs) (ids ++ more) ≡ true → is_stored xs id ≡ false → list_any (λ prev. bytes_eq prev id) ids ≡ false) → (b || list_any (λ prev. bytes_eq prev id) ids) ≡ false
    by true t true s h later = absurd (true≢false (sym s ∙ ap (is_stored xs) ((bytes_eq-Decides i id).0 t) ∙ new))
    by true t false s h later = absurd (true≢false (sym h))
    by false t true s h later = later h new
    by false t false s h later = absurd (true≢false (sym h))

not_named : (xs : List Stored) (event : Event) (id : List ℕ) → is_ready xs event ≡ true → is_stored xs id ≡ false → names event id ≡ false
not_named xs event id h new = no_name xs id (prev_events_of event) _ h new

follows_not : (accepted named : Bool) → named ≡ false → (accepted && named) ≡ false
follows_not true named h = h
follows_not false named h = refl

-- no stored event follows one that is not stored
none_follows : (all : List Stored) (id : List ℕ) → is_stored all id ≡ false → (xs : List Stored) → ((s : Stored) (before after : List Stored) → xs ≡ before ++ s ∷ after → is_ready all s.event.event ≡ true)
    → list_any (follows id) xs ≡ false
none_follows all id new [] ready = refl
none_follows all id new (x ∷ xs) ready =
    ap (λ b. b || list_any (follows id) xs) (follows_not (is_accepted x.verdict) (names x.event.event id) (not_named all x.event.event id (ready x [] xs refl) new))
    ∙ none_follows all id new xs (λ s before after e. ready s (x ∷ before) after (ap (λ ys. x ∷ ys) e))

each_ready : (xs : List Stored) → IsGraph xs → (s : Stored) (before after : List Stored) → xs ≡ before ++ s ∷ after → is_ready xs s.event.event ≡ true
each_ready xs graph s before after e =
    subst (λ (ys : List Stored). is_ready ys s.event.event ≡ true) (sym e) (ready_stays before (s ∷ after) s.event.event (graph.each before s after e).ready)

-- ---- lists

filter_alike : {X : Type 0} (p q : X → Bool) → ((x : X) → p x ≡ q x) → (xs : List X) → filter p xs ≡ filter q xs
filter_alike p q same [] = refl
filter_alike p q same (x ∷ xs) = (λ i. cond (same x i) (x ∷ filter p xs) (filter p xs)) ∙ ap (λ ys. cond (q x) (x ∷ ys) ys) (filter_alike p q same xs)

map_filtered : {X Y : Type 0} (f : X → Y) (p : X → Bool) (q : Y → Bool) (xs : List X) → map f (filter (λ x. p x && q (f x)) xs) ≡ filter q (map f (filter p xs))
map_filtered f p q [] = refl
map_filtered f p q (x ∷ xs) = by (p x) (q (f x)) refl (map_filtered f p q xs)
  where
    by : (a b : Bool) → q (f x) ≡ b → map f (filter (λ x. p x && q (f x)) xs) ≡ filter q (map f (filter p xs))
        → map f (cond (a && b) (x ∷ filter (λ x. p x && q (f x)) xs) (filter (λ x. p x && q (f x)) xs)) ≡ filter q (map f (cond a (x ∷ filter p xs) (filter p xs)))
    by true true t rest = ap (λ ys. f x ∷ ys) rest ∙ ap (λ b. cond b (f x ∷ filter q (map f (filter p xs))) (filter q (map f (filter p xs)))) (sym t)
    by true false t rest = rest ∙ ap (λ b. cond b (f x ∷ filter q (map f (filter p xs))) (filter q (map f (filter p xs)))) (sym t)
    by false b t rest = rest

-- ---- one more event

-- accepted, and not followed by one of these
abbrev leads : List Stored → Stored → Bool
leads events stored = is_accepted stored.verdict && not (list_any (follows (id_of stored)) events)

not_or : (a b c : Bool) → (a && not (b || (c || false))) ≡ ((a && not b) && not c)
not_or true true c = refl
not_or true false true = refl
not_or true false false = refl
not_or false b c = refl

module _ (xs : List Stored) (s : Stored) where
  abbrev last : List Stored
  last = s ∷ []

  leads_more : (x : Stored) → leads (xs ++ last) x ≡ (leads xs x && not (follows (id_of x) s))
  leads_more x =
      ap (λ b. is_accepted x.verdict && not b) (list_any-append (follows (id_of x)) xs last)
      ∙ not_or (is_accepted x.verdict) (list_any (follows (id_of x)) xs) (follows (id_of x) s)

  -- those that were there
  kept : map id_of (filter (leads (xs ++ last)) xs) ≡ filter (λ id. not (follows id s)) (extremities_of xs)
  kept = ap (map id_of) (filter_alike (leads (xs ++ last)) (λ x. leads xs x && not (follows (id_of x) s)) leads_more xs) ∙ map_filtered id_of (leads xs) (λ id. not (follows id s)) xs

  followed : IsGraph xs → IsNext xs s → list_any (follows (id_of s)) (xs ++ last) ≡ false
  followed graph next =
      list_any-append (follows (id_of s)) xs last
      ∙ ap (λ b. b || list_any (follows (id_of s)) last) (none_follows xs (id_of s) next.new xs (each_ready xs graph))
      ∙ ap (λ b. b || false) (follows_not (is_accepted s.verdict) (names s.event.event (id_of s)) (not_named xs s.event.event (id_of s) next.ready next.new))

  -- the event itself
  added : IsGraph xs → IsNext xs s → map id_of (filter (leads (xs ++ last)) last) ≡ (if is_accepted s.verdict then id_of s ∷ [] else [])
  added graph next = ap (λ b. map id_of (cond (is_accepted s.verdict && not b) last [])) (followed graph next) ∙ by (is_accepted s.verdict)
    where
      by : (b : Bool) → map id_of (cond (b && true) last []) ≡ (if b then id_of s ∷ [] else [])
      by true = refl
      by false = refl

all_kept : (ids : List (List ℕ)) → filter (λ (id : List ℕ). true) ids ≡ ids
all_kept [] = refl
all_kept (id ∷ ids) = ap (λ xs. id ∷ xs) (all_kept ids)

no_more : (ids : List (List ℕ)) → ids ++ [] ≡ ids
no_more [] = refl
no_more (id ∷ ids) = ap (λ xs. id ∷ xs) (no_more ids)

-- those that the event names give way, and it is one, if it is accepted
pub extremities_more : (xs : List Stored) (s : Stored) (ids now : List (List ℕ)) → IsGraph xs → IsNext xs s → ids ≡ extremities_of xs
    → now ≡ (if is_accepted s.verdict then (filter (λ id. not (names s.event.event id)) ids) ++ id_of s ∷ [] else ids) → now ≡ extremities_of (xs ++ s ∷ [])
extremities_more xs s ids now graph next e h =
    h ∙ ap (λ (ys : List (List ℕ)). if is_accepted s.verdict then (filter (λ id. not (names s.event.event id)) ys) ++ id_of s ∷ [] else ys) e
    ∙ by (is_accepted s.verdict)
    ∙ (λ i. sym (kept xs s) i ++ sym (added xs s graph next) i)
    ∙ sym (ap (map id_of) (filter-append (leads (xs ++ s ∷ [])) xs (s ∷ [])) ∙ map-append id_of (filter (leads (xs ++ s ∷ [])) xs) (filter (leads (xs ++ s ∷ [])) (s ∷ [])))
  where
    by : (b : Bool) → (if b then (filter (λ id. not (names s.event.event id)) (extremities_of xs)) ++ id_of s ∷ [] else extremities_of xs)
        ≡ filter (λ id. not (b && names s.event.event id)) (extremities_of xs) ++ (if b then id_of s ∷ [] else [])
    by true = refl
    by false = sym (no_more (filter (λ id. true) (extremities_of xs)) ∙ all_kept (extremities_of xs))
