-- What states disagree on, as events come behind those that they name.
use Rattle.std.proofs.Common.{◌≡◌, ◌<◌, ◌≤◌, ℕ, List, [], ◌∷◌, ◌++◌, Bool, true, false, true≢false, not, cond, ◌||◌, ◌&&◌, T, eqb, All, Option, None, Some, IfSome, length, length-append, refl, sym, ap, ◌∙◌, arith, ◌⊎◌, inl, inr}
use Rattle.std.proofs.lemmas.Bool.{and_parts, and_from, or_cases, eqb-true, false_from_ne_true}
use Rattle.std.proofs.lemmas.List.Elements.{All-filter, All-weaker}
use Rattle.std.specs.FinMap as finite
use Rattle.std.specs.FinMap.{find, is_sorted}
use Rattle.std.specs.List.{list_any, list_all}
use Rattle.std.specs.Cmp.{tied_itself}
use Rattle.std.specs.Ordering.{is_eq, eq_by_cmp}
use Rattle.fed_event.specs.Tests.{holds}
use Rattle.fed_room_contract.specs.declared.graph.Stored.{Stored}
use Rattle.fed_room_contract.specs.Graph.{IsAuthGraph, has_id, is_stored}
use Rattle.fed_room_contract.specs.State.{StateKey, StateMap, key_cmp}
use Rattle.fed_room_contract.specs.Lawful.{NamesStored}
use Rattle.fed_room_contract.proofs.Filled.{first, second, tied, absent}
use Rattle.fed_room_contract.proofs.Positions.{position_below}
use Rattle.fed_room_contract.proofs.States.{key_cmp_total}
use Rattle.fed_resolve.specs.Chain.{place_of, places_below, is_in_chain, is_entry_at, is_in_full_chain, members}
use Rattle.fed_resolve.specs.Conflict.{agree_with, is_conflicted, is_in_difference, is_full_conflicted}
use Rattle.fed_resolve.specs.PowerOrder.{is_power_event, is_power_place}
use Rattle.fed_resolve.specs.Resolution.{is_below_power, is_power, is_other}
use Rattle.fed_resolve.specs.Laws.{AllNameStored}
use Rattle.fed_resolve.proofs.Agreement.{any-agree, all-agree, places_within, passing_upto}
use Rattle.fed_resolve.proofs.ChainMarks.{any_found, chain-from_test}
use Rattle.fed_resolve.proofs.Grown.{slice_get-front, place_found, place-same, chain_below, chain-same, front}

-- ---- entries that name stored events

entries_pass : (test : List ℕ → Bool) (es : List (StateKey × List ℕ)) → T (is_sorted key_cmp es) → ((q : StateKey) (id : List ℕ) → find key_cmp q es ≡ Some id → test id ≡ true)
    → list_all (λ e. test e.1) es ≡ true
entries_pass test [] sorted passes = refl
entries_pass test (e ∷ es) sorted passes =
    and_from (test e.1) (list_all (λ x. test x.1) es) (passes e.0 e.1 (ap (λ o. cond (is_eq o) (Some e.1) (find key_cmp e.0 es)) (tied_itself key_cmp_total e.0)))
    (entries_pass test es (second _ _ sorted) (λ q id h. later q id h (eq_by_cmp key_cmp q e.0) refl))
  where
    later : (q : StateKey) (id : List ℕ) → find key_cmp q es ≡ Some id → (b : Bool) → eq_by_cmp key_cmp q e.0 ≡ b → test id ≡ true
    later q id h true t = let none = absent key_cmp_total q e.0 es (tied _ t) (first _ _ sorted) in absurd (cc)
    later q id h false t = passes q id (ap (λ b. cond b (Some e.1) (find key_cmp q es)) t ∙ h)

pub entries_stored : (events : List Stored) (state : StateMap) → NamesStored events state → list_all (λ e. is_stored events e.1) (finite.entries state) ≡ true
entries_stored events state named =
    entries_pass (is_stored events) (finite.entries state) (finite.entries_sorted state) (λ q id h. named q.0 q.1 id (finite.get-entries state q ∙ h))

-- ---- what no place from the end on is

abbrev Entries : Type 0
Entries = List (StateKey × List ℕ)

module _ (events : List Stored) (graph : IsAuthGraph events) where
  held_within : (q : ℕ) (test : ℕ → Bool) → ((p : ℕ) → test p ≡ true → q < length events) → (o : Option ℕ) → holds test o ≡ true → q < length events
  held_within q test within None h = absurd (true≢false (sym h))
  held_within q test within (Some p) h = within p h

  full_chain_within : (state : StateMap) (q : ℕ) → is_in_full_chain events state q ≡ true → q < length events
  full_chain_within state q h =
      let found = any_found (λ (e : StateKey × List ℕ). holds (λ p. is_in_chain events p q) (place_of events e.1)) (finite.entries state) h in
      held_within q (λ p. is_in_chain events p q)
      (λ p t. let below = chain_below events graph p q (chain-from_test events graph p q t) in omega (arith, below.0, below.1)) (place_of events found.0.1) found.1.0

  entry_within : (q : ℕ) (id : List ℕ) → is_entry_at events q id ≡ true → q < length events
  entry_within q id h = by (place_of events id) (position_below (has_id id) events) h
    where
      by : (o : Option ℕ) → IfSome o (λ p. p < length events) → holds (λ p. eqb p q) o ≡ true → q < length events
      by None below t = absurd (true≢false (sym t))
      by (Some p) below t = let same = eqb-true p q t in omega arith

  conflict_within : (states : List StateMap) (q : ℕ) → is_conflicted events states q ≡ true → q < length events
  conflict_within states q h =
      let state = any_found (λ s. list_any (λ (e : StateKey × List ℕ). not (agree_with s states e.0) && is_entry_at events q e.1) (finite.entries s)) states h in
      let entry = any_found (λ (e : StateKey × List ℕ). not (agree_with state.0 states e.0) && is_entry_at events q e.1) (finite.entries state.0) state.1.0 in
      entry_within q entry.0.1 (and_parts (not (agree_with state.0 states entry.0.0)) (is_entry_at events q entry.0.1) entry.1.0).1

  difference_within : (states : List StateMap) (q : ℕ) → is_in_difference events states q ≡ true → q < length events
  difference_within states q h =
      let some = (and_parts (list_any (λ s. is_in_full_chain events s q) states) (not (list_all (λ s. is_in_full_chain events s q) states)) h).0 in
      let state = any_found (λ s. is_in_full_chain events s q) states some in
      full_chain_within state.0 q state.1.0

  -- the full conflicted set is of stored events
  pub conflicted_within : (states : List StateMap) (q : ℕ) → is_full_conflicted events states q ≡ true → q < length events
  conflicted_within states q h = by (or_cases (is_conflicted events states q) (is_in_difference events states q) h)
    where
      by : (is_conflicted events states q ≡ true) ⊎ (is_in_difference events states q ≡ true) → q < length events
      by (inl t) = conflict_within states q t
      by (inr t) = difference_within states q t

pub members_within : (events : List Stored) (test : ℕ → Bool) → All (λ p. p < length events) (members events test)
members_within events test = All-filter test (λ p. p < length events) (places_below (length events)) (places_within (length events))

-- ---- more events behind

module _ (events more : List Stored) (graph : IsAuthGraph (events ++ more)) where
  entry-same : (q : ℕ) (id : List ℕ) → is_stored events id ≡ true → is_entry_at (events ++ more) q id ≡ is_entry_at events q id
  entry-same q id h = ap (holds (λ p. eqb p q)) (place-same events more id h)

  reached-same : (q : ℕ) (id : List ℕ) → is_stored events id ≡ true
      → holds (λ p. is_in_chain (events ++ more) p q) (place_of (events ++ more) id) ≡ holds (λ p. is_in_chain events p q) (place_of events id)
  reached-same q id h =
      let found = place_found events more id h in
      ap (holds (λ p. is_in_chain (events ++ more) p q)) found.1.1.1 ∙ chain-same events more graph found.0 q found.1.0 ∙ sym (ap (holds (λ p. is_in_chain events p q)) found.1.1.0)

  reached-entries : (q : ℕ) (es : Entries) → list_all (λ e. is_stored events e.1) es ≡ true
      → list_any (λ e. holds (λ p. is_in_chain (events ++ more) p q) (place_of (events ++ more) e.1)) es ≡ list_any (λ e. holds (λ p. is_in_chain events p q) (place_of events e.1)) es
  reached-entries q [] h = refl
  reached-entries q (e ∷ es) h =
      let parts = and_parts (is_stored events e.1) (list_all (λ x. is_stored events x.1) es) h in
      λ i. reached-same q e.1 parts.0 i || reached-entries q es parts.1 i

  full_chain-same : (state : StateMap) (q : ℕ) → NamesStored events state → is_in_full_chain (events ++ more) state q ≡ is_in_full_chain events state q
  full_chain-same state q named = reached-entries q (finite.entries state) (entries_stored events state named)

  conflict-entries : (agree : StateKey → Bool) (q : ℕ) (es : Entries) → list_all (λ e. is_stored events e.1) es ≡ true
      → list_any (λ e. not (agree e.0) && is_entry_at (events ++ more) q e.1) es ≡ list_any (λ e. not (agree e.0) && is_entry_at events q e.1) es
  conflict-entries agree q [] h = refl
  conflict-entries agree q (e ∷ es) h =
      let parts = and_parts (is_stored events e.1) (list_all (λ x. is_stored events x.1) es) h in
      λ i. (not (agree e.0) && entry-same q e.1 parts.0 i) || conflict-entries agree q es parts.1 i

  module _ (states : List StateMap) (all : AllNameStored events states) where
    conflict-same : (q : ℕ) → is_conflicted (events ++ more) states q ≡ is_conflicted events states q
    conflict-same q =
        any-agree (λ s. list_any (λ (e : StateKey × List ℕ). not (agree_with s states e.0) && is_entry_at (events ++ more) q e.1) (finite.entries s))
        (λ s. list_any (λ (e : StateKey × List ℕ). not (agree_with s states e.0) && is_entry_at events q e.1) (finite.entries s)) states
        (All-weaker (NamesStored events) _ (λ s named. conflict-entries (agree_with s states) q (finite.entries s) (entries_stored events s named)) states all)

    chains-same : (q : ℕ) → All (λ s. is_in_full_chain (events ++ more) s q ≡ is_in_full_chain events s q) states
    chains-same q = All-weaker (NamesStored events) (λ s. is_in_full_chain (events ++ more) s q ≡ is_in_full_chain events s q) (λ s named. full_chain-same s q named) states all

    difference-same : (q : ℕ) → is_in_difference (events ++ more) states q ≡ is_in_difference events states q
    difference-same q = λ i.
        any-agree (λ s. is_in_full_chain (events ++ more) s q) (λ s. is_in_full_chain events s q) states (chains-same q) i
        && not (all-agree (λ s. is_in_full_chain (events ++ more) s q) (λ s. is_in_full_chain events s q) states (chains-same q) i)

    pub conflicted-same : (q : ℕ) → is_full_conflicted (events ++ more) states q ≡ is_full_conflicted events states q
    conflicted-same q = λ i. conflict-same q i || difference-same q i

    conflicted_nowhere : (q : ℕ) → length events ≤ q → is_full_conflicted events states q ≡ false
    conflicted_nowhere q past = false_from_ne_true (is_full_conflicted events states q) (λ h. let below = conflicted_within events (front events more graph) states q h in omega arith)

    -- a set of places of events in front
    members-same : (test other : ℕ → Bool) → ((p : ℕ) → p < length events → test p ≡ other p) → ((p : ℕ) → length events ≤ p → test p ≡ false)
        → members (events ++ more) test ≡ members events other
    members-same test other same none = passing_upto (length events) test other same none (length (events ++ more)) (let long = length-append events more in omega arith)

    full-members : members (events ++ more) (is_full_conflicted (events ++ more) states) ≡ members events (is_full_conflicted events states)
    full-members =
        members-same (is_full_conflicted (events ++ more) states) (is_full_conflicted events states) (λ p below. conflicted-same p)
        (λ p past. conflicted-same p ∙ conflicted_nowhere p past)

    power_place-same : (p : ℕ) → p < length events → is_power_place (events ++ more) p ≡ is_power_place events p
    power_place-same p below = ap (holds (λ stored. is_power_event stored.event.event)) (slice_get-front events more p below)

    below_power-same : (q : ℕ) → is_below_power (events ++ more) states q ≡ is_below_power events states q
    below_power-same q =
        ap (list_any (λ p. is_power_place (events ++ more) p && is_in_chain (events ++ more) p q)) full-members
        ∙ any-agree (λ p. is_power_place (events ++ more) p && is_in_chain (events ++ more) p q) (λ p. is_power_place events p && is_in_chain events p q)
        (members events (is_full_conflicted events states))
        (All-weaker (λ p. p < length events) (λ p. (is_power_place (events ++ more) p && is_in_chain (events ++ more) p q) ≡ (is_power_place events p && is_in_chain events p q))
        (λ p below i. power_place-same p below i && chain-same events more graph p q below i)
        (members events (is_full_conflicted events states)) (members_within events (is_full_conflicted events states)))

    power-same : (p : ℕ) → p < length events → is_power (events ++ more) states p ≡ is_power events states p
    power-same p below = λ i. conflicted-same p i && (power_place-same p below i || below_power-same p i)

    power_nowhere : (p : ℕ) → length events ≤ p → is_power (events ++ more) states p ≡ false
    power_nowhere p past = ap (λ b. b && (is_power_place (events ++ more) p || is_below_power (events ++ more) states p)) (conflicted-same p ∙ conflicted_nowhere p past)

    -- the power events are the same, and so are the others
    pub power-members : members (events ++ more) (is_power (events ++ more) states) ≡ members events (is_power events states)
    power-members = members-same (is_power (events ++ more) states) (is_power events states) power-same power_nowhere

    pub other-members : members (events ++ more) (is_other (events ++ more) states) ≡ members events (is_other events states)
    other-members =
        members-same (is_other (events ++ more) states) (is_other events states) (λ p below i. conflicted-same p i && not (power-same p below i))
        (λ p past. ap (λ b. b && not (is_power (events ++ more) states p)) (conflicted-same p ∙ conflicted_nowhere p past))
