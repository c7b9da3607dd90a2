-- Lists of the same states: they resolve to one state.
use Rattle.std.proofs.Common.{◌≡◌, ℕ, List, [], ◌∷◌, Bool, true, false, true≢false, not, ◌&&◌, ◌||◌, cond, Contains, Option, None, Some, bytes_eq, refl, sym, ap, ◌∙◌, arith, suc, ◌⊎◌, inl, inr}
use Rattle.std.proofs.lemmas.Bool.{or_cases, not-true, not-false, and_from, true_from_ne_false}
use Rattle.std.proofs.lemmas.List.Folds.{list_any_at}
use Rattle.std.specs.Prelude.{codes, option_and_then}
use Rattle.std.specs.FinMap as finite
use Rattle.std.specs.List.{list_any, list_all}
use Rattle.std.specs.Option.{option_eq}
use Rattle.fed_room_contract.specs.declared.graph.Stored.{Stored}
use Rattle.fed_room_contract.specs.State.{StateKey, StateMap, key_cmp, entry_at}
use Rattle.fed_room_contract.proofs.States.{key_cmp_total, key_cmp_same}
use Rattle.fed_auth.proofs.AuthStates.{itself, same_bytes}
use Rattle.fed_resolve.specs.Chain.{members, place_of, is_in_chain, is_entry_at, is_in_full_chain}
use Rattle.fed_resolve.specs.Conflict.{unconflicted, agree_with, is_conflicted, is_in_difference, is_full_conflicted}
use Rattle.fed_resolve.specs.PowerOrder.{is_power_place, power_order}
use Rattle.fed_resolve.specs.Mainline.{mainline_order}
use Rattle.fed_resolve.specs.Checks.{checked}
use Rattle.fed_resolve.specs.Resolution.{with_entries, resolved_of}
use Rattle.fed_resolve.specs.Laws.{AreSameStates}
use Rattle.fed_resolve.proofs.ChainMarks.{same_by}
use Rattle.fed_resolve.proofs.Unconflicteds.{entry-unconflicted}

-- ---- tests of the elements of a list

turned : (a b : Bool) → (a && not b) ≡ not (not a || b)
turned true b = refl
turned false b = refl

module _ {X : Type 0} where
  pub contained : (f : X → Bool) (xs : List X) → list_any f xs ≡ true → (x : X) × (Contains xs x × (f x ≡ true))
  contained f [] h = absurd (true≢false (sym h))
  contained f (x ∷ xs) h = by (contained f xs) (or_cases (f x) (list_any f xs) h)
    where
      by : (list_any f xs ≡ true → (y : X) × (Contains xs y × (f y ≡ true))) → (f x ≡ true) ⊎ (list_any f xs ≡ true) → (y : X) × (Contains (x ∷ xs) y × (f y ≡ true))
      by rest (inl t) = (x, ((0, omega arith, refl), t))
      by rest (inr t) =
          let found = rest t in
          let place = found.1.0 in
          (found.0, ((suc place.0, omega (arith, place.1), place.2), found.1.1))

  pub any_of : (f : X → Bool) (xs : List X) (x : X) → Contains xs x → f x ≡ true → list_any f xs ≡ true
  any_of f xs x there t = list_any_at f xs there.0 x there.1 (ap f there.2 ∙ t)

  all_by_any : (f : X → Bool) (xs : List X) → list_all f xs ≡ not (list_any (λ x. not (f x)) xs)
  all_by_any f [] = refl
  all_by_any f (x ∷ xs) = ap (λ b. f x && b) (all_by_any f xs) ∙ turned (f x) (list_any (λ y. not (f y)) xs)

  pub all_from : (f : X → Bool) (xs : List X) → ((x : X) → Contains xs x → f x ≡ true) → list_all f xs ≡ true
  all_from f xs each =
      true_from_ne_false (list_all f xs)
      (λ h. let found = contained (λ x. not (f x)) xs (not-false _ (sym (all_by_any f xs) ∙ h)) in absurd (true≢false (sym (each found.0 found.1.0) ∙ not-true (f found.0) found.1.1)))

  pub all_at : (f : X → Bool) (xs : List X) (x : X) → list_all f xs ≡ true → Contains xs x → f x ≡ true
  all_at f xs x all there =
      true_from_ne_false (f x) (λ h. absurd (true≢false (sym all ∙ all_by_any f xs ∙ ap not (any_of (λ y. not (f y)) xs x there (ap not h)))))

  module _ (xs ys : List X) (there : (x : X) → Contains xs x → Contains ys x) (back : (x : X) → Contains ys x → Contains xs x) where
    pub any-same : (f : X → Bool) → list_any f xs ≡ list_any f ys
    any-same f =
        same_by _ _ (λ h. let found = contained f xs h in any_of f ys found.0 (there found.0 found.1.0) found.1.1)
        (λ h. let found = contained f ys h in any_of f xs found.0 (back found.0 found.1.0) found.1.1)

    all-same : (f : X → Bool) → list_all f xs ≡ list_all f ys
    all-same f = all_by_any f xs ∙ ap not (any-same (λ x. not (f x))) ∙ sym (all_by_any f ys)

-- ---- what all states have at a key

same_id : (o : Option (List ℕ)) (id : List ℕ) → option_eq bytes_eq o (Some id) ≡ true → o ≡ Some id
same_id None id h = absurd (true≢false (sym h))
same_id (Some i) id h = ap Some (same_bytes i id h)

own_id : (o : Option (List ℕ)) (id : List ℕ) → o ≡ Some id → option_eq bytes_eq o (Some id) ≡ true
own_id o id e = ap (λ p. option_eq bytes_eq p (Some id)) e ∙ itself id

shown : (b : Bool) (o : Option (List ℕ)) (id : List ℕ) → cond b o None ≡ Some id → (b ≡ true) × (o ≡ Some id)
shown true o id h = (refl, h)
shown false o id h = absurd (cc)

agreed_by_all : (states : List StateMap) (q : StateKey) (id : List ℕ) → finite.get (unconflicted states) q ≡ Some id → (state : StateMap) → Contains states state → finite.get state q ≡ Some id
agreed_by_all [] q id h state there = absurd (let below = there.1 in omega arith)
agreed_by_all (first ∷ others) q id h state there =
    same_id (finite.get state q) id
    (ap (option_eq bytes_eq (finite.get state q)) (sym parts.1)
    ∙ all_at (λ other. option_eq bytes_eq (finite.get other q) (finite.get first q)) (first ∷ others) state
    (and_from (option_eq bytes_eq (finite.get first q) (finite.get first q)) (agree_with first others q) (ap (λ o. option_eq bytes_eq o o) parts.1 ∙ itself id) parts.0) there)
  where
    parts : (agree_with first others q ≡ true) × (finite.get first q ≡ Some id)
    parts = shown (agree_with first others q) (finite.get first q) id (sym (entry-unconflicted first others q) ∙ h)

pub agreed_from : (first : StateMap) (others : List StateMap) (q : StateKey) (id : List ℕ) → ((state : StateMap) → Contains (first ∷ others) state → finite.get state q ≡ Some id)
    → finite.get (unconflicted (first ∷ others)) q ≡ Some id
agreed_from first others q id each =
    entry-unconflicted first others q ∙ ap (λ b. cond b (finite.get first q) None) agree ∙ here
  where
    here : finite.get first q ≡ Some id
    here = each first (0, omega arith, refl)

    agree : agree_with first others q ≡ true
    agree =
        ap (λ o. list_all (λ other. option_eq bytes_eq (finite.get other q) o) others) here
        ∙ all_from (λ other. option_eq bytes_eq (finite.get other q) (Some id)) others
        (λ other there. own_id (finite.get other q) id (each other (suc there.0, (let below = there.1 in omega arith), there.2)))

pub same_option : (o p : Option (List ℕ)) → ((id : List ℕ) → o ≡ Some id → p ≡ Some id) → ((id : List ℕ) → p ≡ Some id → o ≡ Some id) → o ≡ p
same_option None None f g = refl
same_option None (Some id) f g = g id refl
same_option (Some id) p f g = sym (f id refl)

module _ (states others : List StateMap) (there : (state : StateMap) → Contains states state → Contains others state) (back : (state : StateMap) → Contains others state → Contains states state) where
  agreed-too : (q : StateKey) (id : List ℕ) → finite.get (unconflicted states) q ≡ Some id → finite.get (unconflicted others) q ≡ Some id
  agreed-too q id h = by others back there (some states h)
    where
      some : (xs : List StateMap) → finite.get (unconflicted xs) q ≡ Some id → (x : StateMap) × Contains xs x
      some [] g = let none = finite.get-empty {X = List ℕ} key_cmp q in absurd (cc)
      some (x ∷ xs) g = (x, (0, omega arith, refl))

      by : (xs : List StateMap) → ((state : StateMap) → Contains xs state → Contains states state) → ((state : StateMap) → Contains states state → Contains xs state) → (x : StateMap) × Contains states x
          → finite.get (unconflicted xs) q ≡ Some id
      by [] into onto (x, from) = absurd (let below = (onto x from).1 in omega arith)
      by (x ∷ xs) into onto from = agreed_from x xs q id (λ state g. agreed_by_all states q id h state (into state g))

pub unconflicted-same : (states others : List StateMap) → AreSameStates states others → unconflicted states ≡ unconflicted others
unconflicted-same states others same =
    finite.same_map key_cmp_total key_cmp_same (unconflicted states) (unconflicted others)
    (λ q. same_option (finite.get (unconflicted states) q) (finite.get (unconflicted others) q) (agreed-too states others same.there same.back q) (agreed-too others states same.back same.there q))

-- ---- the full conflicted set

module _ (events : List Stored) (states others : List StateMap) (same : AreSameStates states others) where
  agree-same : (state : StateMap) (key : StateKey) → agree_with state states key ≡ agree_with state others key
  agree-same state key = all-same states others same.there same.back (λ other. option_eq bytes_eq (finite.get other key) (finite.get state key))

  conflict-same : (q : ℕ) → is_conflicted events states q ≡ is_conflicted events others q
  conflict-same q =
      (λ i. list_any (λ state. list_any (λ (entry : StateKey × List ℕ). not (agree-same state entry.0 i) && is_entry_at events q entry.1) (finite.entries state)) states)
      ∙ any-same states others same.there same.back (λ state. list_any (λ (entry : StateKey × List ℕ). not (agree_with state others entry.0) && is_entry_at events q entry.1) (finite.entries state))

  difference-same : (q : ℕ) → is_in_difference events states q ≡ is_in_difference events others q
  difference-same q = λ i.
      any-same states others same.there same.back (λ state. is_in_full_chain events state q) i
      && not (all-same states others same.there same.back (λ state. is_in_full_chain events state q) i)

  pub full-conflict-same : (q : ℕ) → is_full_conflicted events states q ≡ is_full_conflicted events others q
  full-conflict-same q = λ i. conflict-same q i || difference-same q i

-- ---- the resolved state, by the unconflicted state and the full conflicted set

module _ (events : List Stored) (start : StateMap) (conflicted : ℕ → Bool) where
  abbrev is_power_by : ℕ → Bool
  is_power_by place = conflicted place && (is_power_place events place || list_any (λ p. is_power_place events p && is_in_chain events p place) (members events conflicted))

  abbrev power_by : StateMap
  power_by = checked events start (power_order events (members events is_power_by))

  abbrev checked_by : StateMap
  checked_by =
      checked events power_by
      (mainline_order events (option_and_then (place_of events) (entry_at power_by (codes "m.room.power_levels") [])) (members events (λ place. conflicted place && not (is_power_by place))))

  abbrev resolved_by : StateMap
  resolved_by = with_entries checked_by (finite.entries start)

pub any_order : (events : List Stored) (states others : List StateMap) → AreSameStates states others → resolved_of events states ≡ resolved_of events others
any_order events states others same = λ i. resolved_by events (unconflicted-same states others same i) (λ q. full-conflict-same events states others same q i)
