-- Graphs that grow.
use Rattle.std.proofs.Common.{◌≡◌, ◌≢◌, ℕ, List, [], ◌∷◌, ◌++◌, append_assoc, length, Bool, true, false, ◌&&◌, ◌||◌, cond, nat_cmp, Option, None, Some, refl, sym, ap, ◌∙◌, subst, ◌⊎◌, inl, inr}
use Rattle.std.proofs.lemmas.Slice.Eq.{bytes_eq-Decides}
use Rattle.std.specs.FinMap as finite
use Rattle.std.specs.List.{position, list_all}
use Rattle.std.specs.Str.{bytes_eq}
use Rattle.std.specs.Ordering.{eq_by_cmp}
use Rattle.std.specs.Cmp.Lexicographic.{slice_cmp, nat_list_cmp_total}
use Rattle.fed_event.specs.Event.{Event}
use Rattle.fed_event.specs.Fields.{auth_events_of}
use Rattle.fed_room_contract.specs.declared.graph.Stored.{Stored}
use Rattle.fed_room_contract.specs.Places.{PlaceMap, place_in, place_at}
use Rattle.fed_room_contract.specs.Graph.{IsGraph, IsNext, has_id, id_of, is_stored, stored_at, named_by, is_ready, has_auths}
use Rattle.fed_room_contract.proofs.Filled.{or, or_none}
use Rattle.fed_room_contract.proofs.TextUpdates.{same_test}
use Rattle.fed_room_contract.proofs.Positions.{position-push, no_position}

nothing_next : (before : List Stored) (next : Stored) (after : List Stored) → ([] ≡ before ++ next ∷ after) → IsNext before next
nothing_next [] next after e = absurd (cc)
nothing_next (b ∷ before) next after e = absurd (cc)

pub no_graph : IsGraph []
no_graph = record { each = nothing_next }

abbrev tail : List Stored → List Stored
tail [] = []
tail (x ∷ xs) = xs

-- the events with one more, split at some event: it is the last one, or stands among those before
pub split : (xs : List Stored) (last : Stored) (before : List Stored) (next : Stored) (after : List Stored) → xs ++ last ∷ [] ≡ before ++ next ∷ after
    → ((before ≡ xs) × (next ≡ last)) ⊎ ((rest : List Stored) × (xs ≡ before ++ next ∷ rest))
split [] last [] next after e = inl (refl, cc)
split [] last (b ∷ before) next after e = by before (ap tail e)
  where
    by : (before : List Stored) → ([] ≡ before ++ next ∷ after) → ((b ∷ before ≡ []) × (next ≡ last)) ⊎ ((rest : List Stored) × ([] ≡ (b ∷ before) ++ next ∷ rest))
    by [] h = absurd (cc)
    by (c ∷ before) h = absurd (cc)
split (x ∷ xs) last [] next after e = let same : x ≡ next = cc in inr (xs, ap (λ y. y ∷ xs) same)
split (x ∷ xs) last (b ∷ before) next after e = by (split xs last before next after (ap tail e))
  where
    same : x ≡ b
    same = cc

    by : ((before ≡ xs) × (next ≡ last)) ⊎ ((rest : List Stored) × (xs ≡ before ++ next ∷ rest)) → ((b ∷ before ≡ x ∷ xs) × (next ≡ last)) ⊎ ((rest : List Stored) × (x ∷ xs ≡ (b ∷ before) ++ next ∷ rest))
    by (inl (p, q)) = inl ((λ i. sym same i ∷ p i), q)
    by (inr (rest, p)) = inr (rest, λ i. same i ∷ p i)

pub graph_grows : (xs : List Stored) (last : Stored) → IsGraph xs → IsNext xs last → IsGraph (xs ++ last ∷ [])
graph_grows xs last graph next = record { each = λ before n after e. by before n (split xs last before n after e) }
  where
    by : (before : List Stored) (n : Stored) → ((before ≡ xs) × (n ≡ last)) ⊎ ((rest : List Stored) × (xs ≡ before ++ n ∷ rest)) → IsNext before n
    by before n (inl (p, q)) = subst (λ (b : List Stored). IsNext b n) (sym p) (subst (λ (m : Stored). IsNext xs m) (sym q) next)
    by before n (inr (rest, p)) = graph.each before n rest p

-- ---- the place of one more event

is_true_or_false : (b : Bool) → (b ≡ true) ⊎ (b ≡ false)
is_true_or_false true = inl refl
is_true_or_false false = inr refl

entered_in : (b : Bool) (n : ℕ) (o : Option (Option ℕ)) → place_in (cond b (Some (Some n)) o) ≡ cond b (Some n) (place_in o)
entered_in true n o = refl
entered_in false n o = refl

-- a new event that is entered stands at the end
pub entered_more : (places : PlaceMap) (xs : List Stored) (last : Stored) → ((id : List ℕ) → place_at places id ≡ position (has_id id) xs) → is_stored xs (id_of last) ≡ false
    → (id : List ℕ) → place_at (finite.insert places (id_of last) (Some (length xs))) id ≡ position (has_id id) (xs ++ last ∷ [])
entered_more places xs last entered new id =
    ap place_in (finite.get-insert nat_list_cmp_total places (id_of last) (Some (length xs)) id)
    ∙ entered_in (eq_by_cmp (slice_cmp nat_cmp) id (id_of last)) (length xs) (finite.get places id)
    ∙ ap (λ (b : Bool). cond b (Some (length xs)) (place_at places id)) (sym (same_test (id_of last) id))
    ∙ by (is_true_or_false (bytes_eq (id_of last) id))
    ∙ sym (position-push (has_id id) xs last)
  where
    by : (bytes_eq (id_of last) id ≡ true) ⊎ (bytes_eq (id_of last) id ≡ false)
        → cond (bytes_eq (id_of last) id) (Some (length xs)) (place_at places id) ≡ or (position (has_id id) xs) (cond (has_id id last) (Some (length xs)) None)
    by (inl t) =
        let none = subst (λ i. position (has_id i) xs ≡ None) ((bytes_eq-Decides (id_of last) id).0 t) (no_position (has_id (id_of last)) xs new) in
        ap (λ (b : Bool). cond b (Some (length xs)) (place_at places id)) t ∙ ap (λ (b : Bool). or None (cond b (Some (length xs)) None)) (sym t)
        ∙ ap (λ (o : Option ℕ). or o (cond (has_id id last) (Some (length xs)) None)) (sym none)
    by (inr f) =
        ap (λ (b : Bool). cond b (Some (length xs)) (place_at places id)) f ∙ entered id ∙ sym (or_none (position (has_id id) xs))
        ∙ ap (λ (b : Bool). or (position (has_id id) xs) (cond b (Some (length xs)) None)) (sym f)

-- ---- what stays

list_all_more : {X : Type 0} (p q : X → Bool) → ((x : X) → p x ≡ true → q x ≡ true) → (xs : List X) → list_all p xs ≡ true → list_all q xs ≡ true
list_all_more p q f [] h = refl
list_all_more p q f (x ∷ xs) h = by (p x) refl h (list_all_more p q f xs)
  where
    by : (b : Bool) → p x ≡ b → (b && list_all p xs) ≡ true → (list_all p xs ≡ true → list_all q xs ≡ true) → (q x && list_all q xs) ≡ true
    by true t rest more = ap (λ c. c && list_all q xs) (f x t) ∙ more rest
    by false t rest more = absurd (cc)

pub is_stored-++ : (xs ys : List Stored) (id : List ℕ) → is_stored xs id ≡ true → is_stored (xs ++ ys) id ≡ true
is_stored-++ [] ys id h = absurd (cc)
is_stored-++ (x ∷ xs) ys id h = by (has_id id x) h (is_stored-++ xs ys id)
  where
    by : (b : Bool) → (b || is_stored xs id) ≡ true → (is_stored xs id ≡ true → is_stored (xs ++ ys) id ≡ true) → (b || is_stored (xs ++ ys) id) ≡ true
    by true t more = refl
    by false t more = more t

pub ready_stays : (xs ys : List Stored) (event : Event) → is_ready xs event ≡ true → is_ready (xs ++ ys) event ≡ true
ready_stays xs ys event h = list_all_more (is_stored xs) (is_stored (xs ++ ys)) (λ id t. is_stored-++ xs ys id t) (named_by event) h

pub auths_stay : (xs ys : List Stored) (event : Event) → has_auths xs event ≡ true → has_auths (xs ++ ys) event ≡ true
auths_stay xs ys event h = list_all_more (is_stored xs) (is_stored (xs ++ ys)) (λ id t. is_stored-++ xs ys id t) (auth_events_of event) h

pub stored_at-++ : (xs ys : List Stored) (id : List ℕ) (s : Stored) → stored_at xs id ≡ Some s → stored_at (xs ++ ys) id ≡ Some s
stored_at-++ [] ys id s h = absurd (cc)
stored_at-++ (x ∷ xs) ys id s h = by (has_id id x) h (stored_at-++ xs ys id s)
  where
    by : (b : Bool) → cond b (Some x) (stored_at xs id) ≡ Some s → (stored_at xs id ≡ Some s → stored_at (xs ++ ys) id ≡ Some s) → cond b (Some x) (stored_at (xs ++ ys) id) ≡ Some s
    by true t more = t
    by false t more = more t

stored_at-snoc : (xs : List Stored) (next : Stored) (id : List ℕ) → stored_at (xs ++ next ∷ []) id ≡ or (stored_at xs id) (cond (has_id id next) (Some next) None)
stored_at-snoc [] next id = refl
stored_at-snoc (x ∷ xs) next id =
    ap (cond (has_id id x) (Some x)) (stored_at-snoc xs next id)
    ∙ elim (has_id id x) as (λ b. cond b (Some x) (or (stored_at xs id) (cond (has_id id next) (Some next) None)) ≡ or (cond b (Some x) (stored_at xs id)) (cond (has_id id next) (Some next) None)) [ true ↦ refl | false ↦ refl ]

not_found : (xs : List Stored) (id : List ℕ) → is_stored xs id ≡ false → stored_at xs id ≡ None
not_found [] id h = refl
not_found (x ∷ xs) id h = by (has_id id x) h (not_found xs id)
  where
    by : (b : Bool) → (b || is_stored xs id) ≡ false → (is_stored xs id ≡ false → stored_at xs id ≡ None) → cond b (Some x) (stored_at xs id) ≡ None
    by true t more = absurd (cc)
    by false t more = more t

pub stored_at-last : (xs : List Stored) (next : Stored) → is_stored xs (id_of next) ≡ false → stored_at (xs ++ next ∷ []) (id_of next) ≡ Some next
stored_at-last xs next new =
    stored_at-snoc xs next (id_of next) ∙ ap (λ (o : Option Stored). or o (cond (has_id (id_of next) next) (Some next) None)) (not_found xs (id_of next) new)
    ∙ ap (λ b. cond b (Some next) None) ((bytes_eq-Decides (id_of next) (id_of next)).1 refl)

pub stored_at-others : (xs : List Stored) (next : Stored) (id : List ℕ) → id ≢ id_of next → stored_at (xs ++ next ∷ []) id ≡ stored_at xs id
stored_at-others xs next id apart = stored_at-snoc xs next id ∙ by (is_true_or_false (has_id id next))
  where
    by : (has_id id next ≡ true) ⊎ (has_id id next ≡ false) → or (stored_at xs id) (cond (has_id id next) (Some next) None) ≡ stored_at xs id
    by (inl t) = absurd (apart (sym ((bytes_eq-Decides (id_of next) id).0 t)))
    by (inr f) = ap (λ b. or (stored_at xs id) (cond b (Some next) None)) f ∙ or_none (stored_at xs id)

pub graph_last : (xs : List Stored) (next : Stored) → IsGraph (xs ++ next ∷ []) → IsNext xs next
graph_last xs next h = h.each xs next [] refl

pub graph_front : (xs ys : List Stored) → IsGraph (xs ++ ys) → IsGraph xs
graph_front xs ys h = record { each = λ before next after e. h.each before next (after ++ ys) (ap (λ zs. zs ++ ys) e ∙ append_assoc before (next ∷ after) ys) }
