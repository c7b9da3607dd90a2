-- Places of events, and kept states at them.
use Rattle.std.proofs.Common.{◌≡◌, ◌<◌, ◌≤◌, ◌+◌, ℕ, zero, suc, List, [], ◌∷◌, ◌++◌, append_assoc, map, length, drop, Bool, true, false, ◌&&◌, ◌||◌, not, cond, nat_lt, true≢false, Option, None, Some, IfSome, All, refl, sym, ap, ◌∙◌, subst, arith}
use Rattle.std.proofs.Math.Seq.{drop-cons}
use Rattle.std.proofs.lemmas.List.{append-nil, length-map}
use Rattle.std.proofs.lemmas.List.Elements.{All-cons}
use Rattle.std.proofs.lemmas.Slice.Eq.{bytes_eq-Decides}
use Rattle.std.specs.FinMap as finite
use Rattle.std.specs.List.{list_all, filter_map, cons_option, position_or_len, slice_index_or}
use Rattle.fed_room_contract.specs.declared.graph.Stored.{Stored}
use Rattle.fed_room_contract.specs.State.{StateMap}
use Rattle.fed_room_contract.specs.Graph.{has_id, id_of, is_stored}
use Rattle.fed_room_contract.proofs.Positions.{position_below}
use Rattle.fed_resolve.specs.Chain.{place_of}
use Rattle.fed_resolve.specs.Resolution.{resolved_of}
use Rattle.fed_resolve.proofs.Grown.{place_found}
use Rattle.fed_room.specs.States.{state_after, states_after, resolved_after}
use Rattle.fed_room.specs.StatesParts.{at_places}

-- ---- places so far, and those of what is left

added : {X : Type 0} (old : List X) (o : Option X) (rest : List X) → (old ++ cons_option o []) ++ rest ≡ old ++ cons_option o rest
added old None rest = ap (λ xs. xs ++ rest) (append-nil old)
added old (Some x) rest = append_assoc old (x ∷ []) rest

pub pushed_on : {X Y : Type 0} (f : Y → Option X) (old new : List X) (y : Y) (ys zs : List Y) → zs ≡ y ∷ ys → new ≡ old ++ cons_option (f y) [] → new ++ filter_map f ys ≡ old ++ filter_map f zs
pushed_on f old new y ys zs e h = ap (λ xs. xs ++ filter_map f ys) h ∙ added old (f y) (filter_map f ys) ∙ ap (λ ws. old ++ filter_map f ws) (sym e)

pub left_here : {X : Type 0} (xs : List X) (i : ℕ) (x : X) → i < length xs → x ≡ slice_index_or xs i x → drop i xs ≡ x ∷ drop (i + 1) xs
left_here xs i x below is = let one : suc i ≡ i + 1 = omega arith in drop-cons xs i x below ∙ (λ k. sym is k ∷ drop (one k) xs)

-- ---- they are places of the graph

module _ (events : List Stored) where
  one_within : (o : Option ℕ) (rest : List ℕ) → IfSome o (λ place. place < length events) → All (λ place. place < length events) rest → All (λ place. place < length events) (cons_option o rest)
  one_within None rest one all = all
  one_within (Some place) rest one all = All-cons (λ place. place < length events) place rest one all

  pub places_within : (ids : List (List ℕ)) → All (λ place. place < length events) (filter_map (place_of events) ids)
  places_within [] = λ k d h. absurd (omega (arith, h))
  places_within (id ∷ ids) = one_within (place_of events id) (filter_map (place_of events) ids) (position_below (has_id id) events) (places_within ids)

-- ---- the kept states at them

state_there : (f : List ℕ → StateMap) (xs : List Stored) (id : List ℕ) → is_stored xs id ≡ true
    → slice_index_or (map (λ stored. f (id_of stored)) xs) (position_or_len (has_id id) xs) finite.empty ≡ f id
state_there f [] id h = absurd (true≢false (sym h))
state_there f (x ∷ xs) id h = by (has_id id x) refl h (state_there f xs id)
  where
    one : 1 + position_or_len (has_id id) xs ≡ suc (position_or_len (has_id id) xs)
    one = omega arith

    by : (b : Bool) → has_id id x ≡ b → (b || is_stored xs id) ≡ true → (is_stored xs id ≡ true → slice_index_or (map (λ stored. f (id_of stored)) xs) (position_or_len (has_id id) xs) finite.empty ≡ f id)
        → slice_index_or (f (id_of x) ∷ map (λ stored. f (id_of stored)) xs) (cond (not b) (1 + position_or_len (has_id id) xs) 0) finite.empty ≡ f id
    by true t h later = ap f ((bytes_eq-Decides (id_of x) id).0 t)
    by false t h later = ap (λ k. slice_index_or (f (id_of x) ∷ map (λ stored. f (id_of stored)) xs) k finite.empty) one ∙ later h

chosen : (b : Bool) (n p : ℕ) → cond b (Some n) None ≡ Some p → cond b (Some n) None ≡ Some n
chosen true n p e = refl
chosen false n p e = absurd (cc)

pub at-ids : (events : List Stored) (kept : List StateMap) → kept ≡ states_after events → (ids : List (List ℕ)) → list_all (is_stored events) ids ≡ true
    → at_places kept (filter_map (place_of events) ids) ≡ map (state_after events) ids
at-ids events kept e [] h = refl
at-ids events kept e (id ∷ ids) h = by (is_stored events id) refl h (at-ids events kept e ids)
  where
    here : is_stored events id ≡ true → place_of events id ≡ Some (position_or_len (has_id id) events)
    here t = let found = place_found events [] id t in chosen (nat_lt (position_or_len (has_id id) events) (length events)) (position_or_len (has_id id) events) found.0 found.1.1.0

    by : (b : Bool) → is_stored events id ≡ b → (b && list_all (is_stored events) ids) ≡ true → (list_all (is_stored events) ids ≡ true → at_places kept (filter_map (place_of events) ids) ≡ map (state_after events) ids)
        → at_places kept (cons_option (place_of events id) (filter_map (place_of events) ids)) ≡ state_after events id ∷ map (state_after events) ids
    by true t rest later =
        ap (λ o. at_places kept (cons_option o (filter_map (place_of events) ids))) (here t)
        ∙ (λ i. (ap (λ states. slice_index_or states (position_or_len (has_id id) events) finite.empty) e ∙ state_there (state_after events) events id t) i ∷ later rest i)
    by false t rest later = absurd (true≢false (sym rest))

-- the kept states at the places of stored events, resolved
pub resolved-at : (events : List Stored) (kept : List StateMap) → kept ≡ states_after events → (ids : List (List ℕ)) → list_all (is_stored events) ids ≡ true
    → resolved_of events (at_places kept (filter_map (place_of events) ids)) ≡ resolved_after events ids
unfolding resolved_after
resolved-at events kept e ids h = ap (resolved_of events) (at-ids events kept e ids h)

pub places-kept : (events : List Stored) (kept : List StateMap) (places : List ℕ) (ids : List (List ℕ)) → kept ≡ states_after events → places ≡ filter_map (place_of events) ids → All (λ place. place < length kept) places
places-kept events kept places ids e same =
    let long : length events ≡ length kept = sym (ap length e ∙ length-map events (λ stored. state_after events (id_of stored))) in
    subst (λ (n : ℕ). All (λ place. place < n) places) long (subst (All (λ place. place < length events)) (sym same) (places_within events ids))

-- ---- one place

pub only-one : (places : List ℕ) → 1 ≤ length places → length places < 2 → places ≡ slice_index_or places 0 0 ∷ []
only-one [] a b = absurd (omega (arith, a))
only-one (p ∷ []) a b = refl
only-one (p ∷ (q ∷ places)) a b = absurd (omega (arith, b))

pub held-there : (states : List StateMap) (i : ℕ) (state d : StateMap) → i < length states → state ≡ slice_index_or states i state → slice_index_or states i d ≡ state
held-there [] i state d below e = absurd (omega (arith, below))
held-there (s ∷ states) zero state d below e = sym e
held-there (s ∷ states) (suc i) state d below e = held-there states i state d (omega (arith, below)) e
