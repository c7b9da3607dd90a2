-- Auth chains: the relation and its test, and marks that are carried down them.
use Rattle.std.proofs.Common.{◌≡◌, ◌<◌, ◌≤◌, ℕ, zero, suc, ◌+◌, List, [], ◌∷◌, ◌++◌, Bool, true, false, not, cond, ◌||◌, eqb, nat_lt, Option, None, Some, length, take, drop, sym, ap, ◌∙◌, ◌⊎◌, inl, inr, refl, arith}
use Rattle.std.specs.List.{list_any, list_all, filter_map, cons_option, slice_index_or, slice_get, position_or_len}
use Rattle.std.proofs.lemmas.Bool.{cases_eq, cases_lt, eq-eqb, eqb-true, or_left, or_right, or_cases, and_parts}
use Rattle.std.proofs.lemmas.List.{take-append-drop, get_or_past}
use Rattle.std.proofs.lemmas.Option.{slice_get_cases}
use Rattle.std.proofs.Math.Seq.{drop-cons}
use Rattle.std.proofs.Math.ListN.{length-take}
use Rattle.fed_event.specs.Fields.{auth_events_of}
use Rattle.fed_room_contract.specs.declared.graph.Stored.{Stored}
use Rattle.fed_room_contract.specs.Graph.{IsAuthGraph, has_id, is_stored, links_in, auth_links}
use Rattle.fed_resolve.specs.Chain.{is_in_chains, auths_at, place_of, IsInChain, is_reached, is_in_chain}
use Rattle.fed_resolve.specs.Chain.IsInChain.{named, further}
use Rattle.fed_resolve.specs.Marks.{AreMarks}
use Rattle.fed_resolve.specs.ChainParts.{AreClosedFrom, is_marked, or_among, or_auths, is_auth}

-- an element that passes, by what holds of every list that passes where it does
pub any_found : {X : Type 0} (f : X → Bool) (xs : List X) → list_any f xs ≡ true → (x : X) × ((f x ≡ true) × ((g : X → Bool) → g x ≡ true → list_any g xs ≡ true))
any_found f [] h = absurd (cc)
any_found {X} f (x ∷ xs) h = by (any_found f xs) (or_cases (f x) (list_any f xs) h)
  where
    by : (list_any f xs ≡ true → (y : X) × ((f y ≡ true) × ((g : X → Bool) → g y ≡ true → list_any g xs ≡ true))) → (f x ≡ true) ⊎ (list_any f xs ≡ true)
        → (y : X) × ((f y ≡ true) × ((g : X → Bool) → g y ≡ true → list_any g (x ∷ xs) ≡ true))
    by rest (inl here) = (x, (here, λ g e. or_left (g x) (list_any g xs) e))
    by rest (inr there) = let found = rest there in (found.0, (found.1.0, λ g e. or_right (g x) (list_any g xs) (found.1.1 g e)))

pub same_by : (a b : Bool) → (a ≡ true → b ≡ true) → (b ≡ true → a ≡ true) → a ≡ b
same_by true b f g = sym (f refl)
same_by false true f g = g refl
same_by false false f g = refl

-- ---- auth events stand before

first_in_front : {X : Type 0} (p : X → Bool) (front back : List X) → list_any p front ≡ true → position_or_len p (front ++ back) < length front
first_in_front p [] back h = absurd (cc)
first_in_front p (x ∷ front) back h = by (first_in_front p front back) (p x) h
  where
    by : (list_any p front ≡ true → position_or_len p (front ++ back) < length front) → (b : Bool) → (b || list_any p front) ≡ true → cond (not b) (1 + position_or_len p (front ++ back)) 0 < length (x ∷ front)
    by others true h = omega arith
    by others false h = let rest = others h in omega arith

chosen : (b : Bool) (n k : ℕ) → cond b (Some n) None ≡ Some k → n ≡ k
chosen true n k e = cc
chosen false n k e = absurd (cc)

in_front : (front back : List Stored) (ids : List (List ℕ)) (q : ℕ) → list_all (is_stored front) ids ≡ true
    → list_any (λ a. eqb a q) (filter_map (place_of (front ++ back)) ids) ≡ true → q < length front
in_front front back [] q stored is_named = absurd (cc)
in_front front back (id ∷ ids) q stored is_named = by (in_front front back ids q) (place_of (front ++ back) id) refl is_named
  where
    parts : (is_stored front id ≡ true) × (list_all (is_stored front) ids ≡ true)
    parts = and_parts (is_stored front id) (list_all (is_stored front) ids) stored

    by : (list_all (is_stored front) ids ≡ true → list_any (λ a. eqb a q) (filter_map (place_of (front ++ back)) ids) ≡ true → q < length front)
        → (o : Option ℕ) → place_of (front ++ back) id ≡ o → list_any (λ a. eqb a q) (cons_option o (filter_map (place_of (front ++ back)) ids)) ≡ true → q < length front
    by rest None e h = rest parts.1 h
    by rest (Some k) e h = or (or_cases (eqb k q) (list_any (λ a. eqb a q) (filter_map (place_of (front ++ back)) ids)) h)
      where
        or : (eqb k q ≡ true) ⊎ (list_any (λ a. eqb a q) (filter_map (place_of (front ++ back)) ids) ≡ true) → q < length front
        or (inl t) =
            let below = first_in_front (has_id id) front back parts.0 in
            let first = chosen (nat_lt (position_or_len (has_id id) (front ++ back)) (length (front ++ back))) (position_or_len (has_id id) (front ++ back)) k e in
            let same = eqb-true k q t in
            omega arith
        or (inr t) = rest parts.1 t

module _ (events : List Stored) (graph : IsAuthGraph events) where
  -- an auth event stands before the event that names it
  pub auth_below : (p a : ℕ) → is_auth events p a ≡ true → (a < p) × (p < length events)
  auth_below p a h = by (slice_get_cases events p).1
    where
      by : ((x : Stored) × (p < length events) × (slice_get events p ≡ Some x) × (slice_index_or events p x ≡ x)) ⊎ ((length events ≤ p) × (slice_get events p ≡ None)) → (a < p) × (p < length events)
      by (inr (past, none)) = let empty : list_any (λ b. eqb b a) (links_in (auth_links events) None) ≡ true = ap (λ o. list_any (λ b. eqb b a) (links_in (auth_links events) o)) (sym none) ∙ h in absurd (cc)
      by (inl (x, within, some, here)) = (omega (arith, below, length-take p events), within)
        where
          front : List Stored
          front = take p events

          back : List Stored
          back = x ∷ drop (suc p) events

          split : events ≡ front ++ back
          split = sym (take-append-drop p events) ∙ ap (λ r. front ++ r) (drop-cons events p x within ∙ ap (λ y. y ∷ drop (suc p) events) here)

          named_here : list_any (λ b. eqb b a) (filter_map (place_of (front ++ back)) (auth_events_of x.event.event)) ≡ true
          named_here = ap (λ es. list_any (λ b. eqb b a) (filter_map (place_of es) (auth_events_of x.event.event))) (sym split) ∙ ap (λ o. list_any (λ b. eqb b a) (links_in (auth_links events) o)) (sym some) ∙ h

          below : a < length front
          below = in_front front back (auth_events_of x.event.event) a (graph.each front x (drop (suc p) events) split).auths named_here

  -- ---- the relation and the test

  from_test : (steps p q : ℕ) → is_reached events steps p q ≡ true → IsInChain events p q
  from_test zero p q h = absurd (cc)
  from_test (suc steps) p q h = by (λ x t. from_test steps x q t) (or_cases (eqb found.0 q) (is_reached events steps found.0 q) found.1.0)
    where
      found : (x : ℕ) × (((eqb x q || is_reached events steps x q) ≡ true) × ((g : ℕ → Bool) → g x ≡ true → list_any g (auths_at events p) ≡ true))
      found = any_found (λ x. eqb x q || is_reached events steps x q) (auths_at events p) h

      by : ((x : ℕ) → is_reached events steps x q ≡ true → IsInChain events x q) → (eqb found.0 q ≡ true) ⊎ (is_reached events steps found.0 q ≡ true) → IsInChain events p q
      by rest (inl t) = named p q (found.1.1 (λ a. eqb a q) t)
      by rest (inr t) = further p found.0 q (found.1.1 (λ a. eqb a found.0) (eq-eqb found.0 found.0 refl)) (rest found.0 t)

  one_step : (steps p q : ℕ) → is_auth events p q ≡ true → is_reached events (suc steps) p q ≡ true
  one_step steps p q h =
      let found = any_found (λ a. eqb a q) (auths_at events p) h in
      found.1.1 (λ x. eqb x q || is_reached events steps x q) (or_left (eqb found.0 q) (is_reached events steps found.0 q) found.1.0)

  more_steps : (steps p a q : ℕ) → is_auth events p a ≡ true → is_reached events steps a q ≡ true → is_reached events (suc steps) p q ≡ true
  more_steps steps p a q h reached =
      let found = any_found (λ x. eqb x a) (auths_at events p) h in
      let same : found.0 ≡ a = eqb-true found.0 a found.1.0 in
      found.1.1 (λ x. eqb x q || is_reached events steps x q) (or_right (eqb found.0 q) (is_reached events steps found.0 q) (ap (λ x. is_reached events steps x q) same ∙ reached))

  to_test : (steps p q : ℕ) → p ≤ steps → IsInChain events p q → is_reached events steps p q ≡ true
  to_test zero _ _ most (named p q h) = absurd (let below = auth_below p q h in omega arith)
  to_test zero _ _ most (further p a q h chain) = absurd (let below = auth_below p a h in omega arith)
  to_test (suc steps) _ _ most (named p q h) = one_step steps p q h
  to_test (suc steps) _ _ most (further p a q h chain) =
      let below = auth_below p a h in
      more_steps steps p a q h (to_test steps a q (omega arith) chain)

  starts_within : (p q : ℕ) → IsInChain events p q → p < length events
  starts_within _ _ (named p q h) = (auth_below p q h).1
  starts_within _ _ (further p a q h chain) = (auth_below p a h).1

  -- the chain's relation is what its test says
  pub chain-from_test : (p q : ℕ) → is_in_chain events p q ≡ true → IsInChain events p q
  chain-from_test p q h = from_test (length events) p q h

  pub chain-to_test : (p q : ℕ) → IsInChain events p q → is_in_chain events p q ≡ true
  chain-to_test p q chain = let within = starts_within p q chain in to_test (length events) p q (omega arith) chain

  -- what is in a chain stands before
  chain_below : (p q : ℕ) → IsInChain events p q → q < p
  chain_below _ _ (named p q h) = (auth_below p q h).0
  chain_below _ _ (further p a q h chain) = let rest = chain_below a q chain in let below = auth_below p a h in omega (arith, below.0)

  extended : (r p q : ℕ) → IsInChain events r p → is_auth events p q ≡ true → IsInChain events r q
  extended _ _ q (named r p h) last = further r p q h (named p q last)
  extended _ _ q (further r a p h chain) last = further r a q h (extended a p q chain last)

  -- ---- marks carried down

  none_past : (marks : List Bool) (p : ℕ) → is_marked marks p ≡ true → p < length marks
  none_past marks p h = by (cases_lt p (length marks))
    where
      by : (p < length marks) ⊎ (length marks ≤ p) → p < length marks
      by (inl below) = below
      by (inr past) = let none : false ≡ true = sym (get_or_past marks p false past) ∙ h in absurd (cc)

  -- at the start, past all places
  pub closed-start : (from : ℕ) (marks : List Bool) → length events ≤ from → length marks ≡ length events → AreClosedFrom events from marks marks
  closed-start from marks past_all long = record {
    long = long;
    kept = λ p h. h;
    sound = λ q h. inl h;
    closed = λ p auth past h named. absurd (let below = none_past marks p h in omega arith);
  }

  module _ (from p : ℕ) (near : from ≤ suc p) (first before : List Bool) (closed : AreClosedFrom events from first before) where
    -- a marked place, whose auth events are marked
    module _ (after : List Bool) (within : p < length events) (marked : is_marked before p ≡ true) (more : AreMarks (length events) (or_among (auths_at events p) before) after) where
      had : (q : ℕ) → is_marked before q ≡ true → is_marked after q ≡ true
      had q h =
          let inside = none_past before q h in
          let long = closed.long in
          more.each q (omega arith) ∙ or_left (is_marked before q) (is_auth events p q) h

      now : (q : ℕ) → is_auth events p q ≡ true → is_marked after q ≡ true
      now q h = let below = auth_below p q h in more.each q (omega arith) ∙ or_right (is_marked before q) (is_auth events p q) h

      either : (q : ℕ) → is_marked after q ≡ true → (is_marked before q ≡ true) ⊎ (is_auth events p q ≡ true)
      either q h =
          let inside = none_past after q h in
          let long = more.long in
          or_cases (is_marked before q) (is_auth events p q) (sym (more.each q (omega arith)) ∙ h)

      abbrev From : ℕ → Type 0
      From q = (is_marked first q ≡ true) ⊎ ((r : ℕ) × ((is_marked first r ≡ true) × IsInChain events r q))

      below : (q : ℕ) → is_auth events p q ≡ true → From p → From q
      below q h (inl m) = inr (p, (m, named p q h))
      below q h (inr (r, (m, chain))) = inr (r, (m, extended r p q chain h))

      sound_now : (q : ℕ) → (is_marked before q ≡ true) ⊎ (is_auth events p q ≡ true) → From q
      sound_now q (inl h) = closed.sound q h
      sound_now q (inr h) = below q h (closed.sound p marked)

      closed_here : (r auth : ℕ) → is_auth events r auth ≡ true → (p ≡ r) → is_marked after auth ≡ true
      closed_here r auth h e = now auth (ap (λ k. is_auth events k auth) e ∙ h)

      closed_above : (r auth : ℕ) → p ≤ r → is_auth events r auth ≡ true → ((p ≡ r) → ⊥) → (is_marked before r ≡ true) ⊎ (is_auth events p r ≡ true) → is_marked after auth ≡ true
      closed_above r auth past h n (inl m) = had auth (closed.closed r auth (omega (arith, n)) m h)
      closed_above r auth past h n (inr m) = let falls = auth_below p r m in absurd (omega arith)

      closed_now : (r auth : ℕ) → p ≤ r → is_marked after r ≡ true → is_auth events r auth ≡ true → ((p ≡ r) ⊎ ((p ≡ r) → ⊥)) → is_marked after auth ≡ true
      closed_now r auth past m h (inl e) = closed_here r auth h e
      closed_now r auth past m h (inr n) = closed_above r auth past h n (either r m)

      pub closed-step : AreClosedFrom events p first after
      closed-step = record {
        long = more.long;
        kept = λ q h. had q (closed.kept q h);
        sound = λ q h. sound_now q (either q h);
        closed = λ r auth past m h. closed_now r auth past m h (cases_eq p r);
      }

  -- a place that is not marked
  pub closed-skip : (from p : ℕ) → from ≤ suc p → (first before : List Bool) → AreClosedFrom events from first before → (after : List Bool) → is_marked before p ≡ false → length before ≡ length events
      → AreMarks (length events) (is_marked before) after → AreClosedFrom events p first after
  closed-skip from p near first before closed after unmarked long same = record {
    long = same.long;
    kept = λ q h. mark q (cases_lt q (length events)) ∙ closed.kept q h;
    sound = λ q h. closed.sound q (sym (mark q (cases_lt q (length events))) ∙ h);
    closed = λ r auth past m h. by r auth past (sym (mark r (cases_lt r (length events))) ∙ m) h (cases_eq p r);
  }
    where
      mark : (q : ℕ) → (q < length events) ⊎ (length events ≤ q) → is_marked after q ≡ is_marked before q
      mark q (inl below) = same.each q below
      mark q (inr past) = let long_too = same.long in get_or_past after q false (omega arith) ∙ sym (get_or_past before q false (omega arith))

      by : (r auth : ℕ) → p ≤ r → is_marked before r ≡ true → is_auth events r auth ≡ true → (p ≡ r) ⊎ (p ≡ r → ⊥) → is_marked after auth ≡ true
      by r auth past m h (inl e) = absurd (let no : false ≡ true = sym unmarked ∙ ap (is_marked before) e ∙ m in cc)
      by r auth past m h (inr n) = mark auth (cases_lt auth (length events)) ∙ closed.closed r auth (omega (arith, n)) m h

  -- ---- the chains of some events

  module _ (from : ℕ) (places : List ℕ) (none first after : List Bool) (unmarked : (q : ℕ) → is_marked none q ≡ false) (auths : AreMarks (length events) (or_auths events places none) first) (closed : AreClosedFrom events from first after) where
    first_is : (q : ℕ) → q < length events → is_marked first q ≡ list_any (λ p. is_auth events p q) places
    first_is q below = auths.each q below ∙ ap (λ b. b || list_any (λ p. is_auth events p q) places) (unmarked q)

    found_first : (q : ℕ) → is_marked first q ≡ true → list_any (λ p. is_auth events p q) places ≡ true
    found_first q h =
        let inside = none_past first q h in
        let long = auths.long in
        sym (first_is q (omega arith)) ∙ h

    -- what is marked is in a chain
    is_sound : (q : ℕ) → (is_marked first q ≡ true) ⊎ ((r : ℕ) × ((is_marked first r ≡ true) × IsInChain events r q)) → is_in_chains events places q ≡ true
    is_sound q (inl h) =
        let found = any_found (λ p. is_auth events p q) places (found_first q h) in
        found.1.1 (λ p. is_in_chain events p q) (chain-to_test found.0 q (named found.0 q found.1.0))
    is_sound q (inr (r, (h, chain))) =
        let found = any_found (λ p. is_auth events p r) places (found_first r h) in
        found.1.1 (λ p. is_in_chain events p q) (chain-to_test found.0 q (further found.0 r q found.1.0 chain))

    -- a chain from a place whose auth events are marked
    carried : (p q : ℕ) → from ≤ suc q → IsInChain events p q → ((a : ℕ) → is_auth events p a ≡ true → is_marked after a ≡ true) → is_marked after q ≡ true
    carried _ _ near (named p q h) all = all q h
    carried _ _ near (further p a q h chain) all =
        let below = chain_below a q chain in
        carried a q near chain (λ b is_named. closed.closed a b (omega arith) (all a h) is_named)

    is_whole : (q : ℕ) → from ≤ suc q → is_in_chains events places q ≡ true → is_marked after q ≡ true
    is_whole q near h =
        let found = any_found (λ p. is_in_chain events p q) places h in
        carried found.0 q near (chain-from_test found.0 q found.1.0)
        (λ a is_named. let below = auth_below found.0 a is_named in closed.kept a (first_is a (omega arith) ∙ found.1.1 (λ p. is_auth events p a) is_named))

    -- the marks of the places that the walk came to, and of the one before
    pub chains_marked_from : (q : ℕ) → from ≤ suc q → is_marked after q ≡ is_in_chains events places q
    chains_marked_from q near = same_by _ _ (λ h. is_sound q (closed.sound q h)) (is_whole q near)

  pub chains_marked : (places : List ℕ) (none first after : List Bool) → ((q : ℕ) → is_marked none q ≡ false) → AreMarks (length events) (or_auths events places none) first → AreClosedFrom events zero first after
      → AreMarks (length events) (is_in_chains events places) after
  chains_marked places none first after unmarked auths closed = record { long = closed.long; each = λ q below. chains_marked_from zero places none first after unmarked auths closed q (omega arith) }
