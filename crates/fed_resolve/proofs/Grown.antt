-- A graph with more events behind: places, auth events and auth chains of those in front stay.
use Rattle.std.proofs.Common.{◌≡◌, ◌<◌, ◌≤◌, ℕ, zero, suc, ◌+◌, List, [], ◌∷◌, ◌++◌, Bool, true, false, not, cond, ◌||◌, eqb, nat_lt, All, Option, None, Some, length, length-append, take, drop, refl, sym, ap, ◌∙◌, arith, ◌⊎◌, inl, inr}
use Rattle.std.proofs.lemmas.Bool.{and_parts, lt-ltb, eq-eqb}
use Rattle.std.proofs.lemmas.List.{take-append-drop}
use Rattle.std.proofs.lemmas.List.Elements.{All-weaker}
use Rattle.std.proofs.lemmas.List.Folds.{list_any_at}
use Rattle.std.proofs.lemmas.Option.{slice_get_cases}
use Rattle.std.proofs.Math.Seq.{drop-cons}
use Rattle.std.specs.List.{list_any, list_all, filter_map, cons_option, slice_get, slice_index_or, position_or_len}
use Rattle.fed_event.specs.Fields.{auth_events_of}
use Rattle.fed_room_contract.specs.declared.graph.Stored.{Stored}
use Rattle.fed_room_contract.specs.Graph.{IsAuthGraph, has_id, is_stored, has_auths, links_in, auth_links}
use Rattle.fed_room_contract.proofs.Graphs.{auths_stay}
use Rattle.fed_room_contract.proofs.AuthGraphs.{auth_graph_front}
use Rattle.fed_resolve.specs.Chain.{auths_at, place_of, IsInChain, is_in_chain}
use Rattle.fed_resolve.specs.Chain.IsInChain.{named, further}
use Rattle.fed_resolve.proofs.Agreement.{filter_map-agree}
use Rattle.fed_resolve.proofs.ChainMarks.{auth_below, same_by, chain-from_test, chain-to_test}

-- ---- places in front

pub slice_get-front : {X : Type 0} (xs ys : List X) (p : ℕ) → p < length xs → slice_get (xs ++ ys) p ≡ slice_get xs p
slice_get-front [] ys p h = absurd (omega arith)
slice_get-front (x ∷ xs) ys zero h = refl
slice_get-front (x ∷ xs) ys (suc p) h = slice_get-front xs ys p (omega arith)

first_in_front : {X : Type 0} (test : X → Bool) (xs ys : List X) → list_any test xs ≡ true
    → (position_or_len test (xs ++ ys) ≡ position_or_len test xs) × (position_or_len test xs < length xs)
first_in_front test [] ys h = absurd (cc)
first_in_front test (x ∷ xs) ys h = by (first_in_front test xs ys) (test x) h
  where
    by : (list_any test xs ≡ true → (position_or_len test (xs ++ ys) ≡ position_or_len test xs) × (position_or_len test xs < length xs)) → (b : Bool) → (b || list_any test xs) ≡ true
        → (cond (not b) (1 + position_or_len test (xs ++ ys)) 0 ≡ cond (not b) (1 + position_or_len test xs) 0) × (cond (not b) (1 + position_or_len test xs) 0 < length (x ∷ xs))
    by rest true t = (refl, omega arith)
    by rest false t = let below = (rest t).1 in (ap (λ k. 1 + k) (rest t).0, omega arith)

-- where a stored event stands, as events come behind
pub place_found : (events more : List Stored) (id : List ℕ) → is_stored events id ≡ true
    → (p : ℕ) × ((p < length events) × ((place_of events id ≡ Some p) × (place_of (events ++ more) id ≡ Some p)))
place_found events more id h = (position_or_len (has_id id) events, (first.1, (here, there)))
  where
    first : (position_or_len (has_id id) (events ++ more) ≡ position_or_len (has_id id) events) × (position_or_len (has_id id) events < length events)
    first = first_in_front (has_id id) events more h

    here : cond (nat_lt (position_or_len (has_id id) events) (length events)) (Some (position_or_len (has_id id) events)) None ≡ Some (position_or_len (has_id id) events)
    here = ap (λ b. cond b (Some (position_or_len (has_id id) events)) None) (lt-ltb (position_or_len (has_id id) events) (length events) first.1)

    longer : position_or_len (has_id id) events < length (events ++ more)
    longer = let long = length-append events more in let below = first.1 in omega arith

    there : cond (nat_lt (position_or_len (has_id id) (events ++ more)) (length (events ++ more))) (Some (position_or_len (has_id id) (events ++ more))) None ≡ Some (position_or_len (has_id id) events)
    there =
        ap (λ k. cond (nat_lt k (length (events ++ more))) (Some k) None) first.0
        ∙ ap (λ b. cond b (Some (position_or_len (has_id id) events)) None) (lt-ltb (position_or_len (has_id id) events) (length (events ++ more)) longer)

pub place-same : (events more : List Stored) (id : List ℕ) → is_stored events id ≡ true → place_of (events ++ more) id ≡ place_of events id
place-same events more id h = let found = place_found events more id h in found.1.1.1 ∙ sym found.1.1.0

-- ---- one graph

module _ (events : List Stored) (graph : IsAuthGraph events) where
  -- the auth events of a stored event are stored
  pub auths_stored : (p : ℕ) (x : Stored) → slice_get events p ≡ Some x → list_all (is_stored events) (auth_events_of x.event.event) ≡ true
  auths_stored p x some = by (slice_get_cases events p).1
    where
      auths_there : (y : Stored) → p < length events → slice_index_or events p y ≡ y → has_auths events y.event.event ≡ true
      auths_there y within here =
          let split : events ≡ take p events ++ y ∷ drop (suc p) events =
          sym (take-append-drop p events) ∙ ap (λ r. take p events ++ r) (drop-cons events p y within ∙ ap (λ z. z ∷ drop (suc p) events) here) in
          ap (λ es. has_auths es y.event.event) split ∙ auths_stay (take p events) (y ∷ drop (suc p) events) y.event.event (graph.each (take p events) y (drop (suc p) events) split).auths

      by : ((y : Stored) × (p < length events) × (slice_get events p ≡ Some y) × (slice_index_or events p y ≡ y)) ⊎ ((length events ≤ p) × (slice_get events p ≡ None))
          → list_all (is_stored events) (auth_events_of x.event.event) ≡ true
      by (inl (y, within, found, here)) =
          let same : y ≡ x = cc in
          ap (λ z. list_all (is_stored events) (auth_events_of z.event.event)) (sym same) ∙ auths_there y within here
      by (inr (past, none)) = absurd (cc)

  pub auths_below : (p : ℕ) → All (λ a. (a < p) × (p < length events)) (auths_at events p)
  auths_below p = λ k d h.
      let a = slice_index_or (auths_at events p) k d in
      auth_below events graph p a (list_any_at (λ b. eqb b a) (auths_at events p) k d h (eq-eqb a a refl))

  -- what is in an auth chain stands before
  pub chain_below : (p q : ℕ) → IsInChain events p q → (q < p) × (p < length events)
  chain_below _ _ (named p q h) = auth_below events graph p q h
  chain_below _ _ (further p a q h chain) =
      let first = auth_below events graph p a h in
      let rest = chain_below a q chain in
      (omega (arith, first.0, rest.0), first.1)

-- ---- more events behind

module _ (events more : List Stored) (graph : IsAuthGraph (events ++ more)) where
  pub front : IsAuthGraph events
  front = auth_graph_front events more graph

  places-same : (ids : List (List ℕ)) → list_all (is_stored events) ids ≡ true → filter_map (place_of (events ++ more)) ids ≡ filter_map (place_of events) ids
  places-same [] h = refl
  places-same (id ∷ ids) h =
      let parts = and_parts (is_stored events id) (list_all (is_stored events) ids) h in
      λ i. cons_option (place-same events more id parts.0 i) (places-same ids parts.1 i)

  pub auths-same : (p : ℕ) → p < length events → auths_at (events ++ more) p ≡ auths_at events p
  auths-same p below = ap (links_in (auth_links (events ++ more))) (slice_get-front events more p below) ∙ by (slice_get events p) refl
    where
      by : (o : Option Stored) → slice_get events p ≡ o → links_in (auth_links (events ++ more)) o ≡ links_in (auth_links events) o
      by None e = refl
      by (Some x) e = places-same (auth_events_of x.event.event) (auths_stored events front p x e)

  -- the auth events of an event, as events
  pub auth_events-same : (p : ℕ) → p < length events → filter_map (slice_get (events ++ more)) (auths_at (events ++ more) p) ≡ filter_map (slice_get events) (auths_at events p)
  auth_events-same p below =
      ap (filter_map (slice_get (events ++ more))) (auths-same p below)
      ∙ filter_map-agree (slice_get (events ++ more)) (slice_get events) (auths_at events p)
      (All-weaker (λ a. (a < p) × (p < length events)) (λ a. slice_get (events ++ more) a ≡ slice_get events a) (λ a h. let falls = h.0 in slice_get-front events more a (omega arith)) (auths_at events p) (auths_below events front p))

  chain-up : (p q : ℕ) → IsInChain events p q → IsInChain (events ++ more) p q
  chain-up _ _ (named p q h) = named p q (ap (λ (xs : List ℕ). list_any (λ a. eqb a q) xs) (auths-same p (auth_below events front p q h).1) ∙ h)
  chain-up _ _ (further p a q h chain) = further p a q (ap (λ (xs : List ℕ). list_any (λ b. eqb b a) xs) (auths-same p (auth_below events front p a h).1) ∙ h) (chain-up a q chain)

  chain-down : (p q : ℕ) → p < length events → IsInChain (events ++ more) p q → IsInChain events p q
  chain-down _ _ below (named p q h) = named p q (sym (ap (λ (xs : List ℕ). list_any (λ a. eqb a q) xs) (auths-same p below)) ∙ h)
  chain-down _ _ below (further p a q h chain) =
      let falls = (auth_below (events ++ more) graph p a h).0 in
      further p a q (sym (ap (λ (xs : List ℕ). list_any (λ b. eqb b a) xs) (auths-same p below)) ∙ h) (chain-down a q (omega arith) chain)

  pub chain-same : (p q : ℕ) → p < length events → is_in_chain (events ++ more) p q ≡ is_in_chain events p q
  chain-same p q below =
      same_by _ _ (λ h. chain-to_test events front p q (chain-down p q below (chain-from_test (events ++ more) graph p q h)))
      (λ h. chain-to_test (events ++ more) graph p q (chain-up p q (chain-from_test events front p q h)))
