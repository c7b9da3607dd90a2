-- Where the entries of a resolved state come from.
use Rattle.std.proofs.Common.{◌≡◌, ℕ, List, [], ◌∷◌, Bool, true, false, not, ◌||◌, cond, All, length, Option, None, Some, Result, Ok, Err, bytes_eq, refl, sym, ap, ◌∙◌, arith, ◌⊎◌, inl, inr}
use Rattle.std.proofs.lemmas.Bool.{and_parts, and_from}
use Rattle.std.proofs.lemmas.List.Elements.{All-head, All-tail, All-weaker, filter_passes}
use Rattle.std.specs.Bool.{⊤}
use Rattle.std.specs.FinMap as finite
use Rattle.std.specs.List.{slice_get}
use Rattle.std.specs.Option.{option_eq}
use Rattle.std.specs.Ordering.{eq_by_cmp}
use Rattle.fed_room_contract.specs.declared.rule.Rule.{Rule}
use Rattle.fed_room_contract.specs.declared.graph.Stored.{Stored}
use Rattle.fed_room_contract.specs.State.{StateKey, StateMap, key_cmp, with_entry}
use Rattle.fed_room_contract.specs.Graph.{id_of}
use Rattle.fed_room_contract.proofs.Filled.{or, tied}
use Rattle.fed_room_contract.proofs.States.{key_cmp_total, key_cmp_same}
use Rattle.fed_auth.specs.AuthState.{kind_in, state_key_in, stands_at, with_id_at, with_stored}
use Rattle.fed_auth.specs.Allowed.{allowed_of}
use Rattle.fed_auth.proofs.AuthStates.{itself}
use Rattle.fed_resolve.specs.Chain.{members, places_below}
use Rattle.fed_resolve.specs.Conflict.{unconflicted, agree_with, is_full_conflicted}
use Rattle.fed_resolve.specs.PowerOrder.{is_power_place, power_order, has_chain_listed, is_before_in_power}
use Rattle.fed_resolve.specs.Mainline.{at_once, mainline, is_before_in_mainline, mainline_order}
use Rattle.fed_resolve.specs.Checks.{completed, laid_over, check_stored, check, checked}
use Rattle.fed_resolve.specs.Resolution.{is_power, is_other, is_below_power, power_state, levels_place, checked_state, resolved_of}
use Rattle.fed_resolve.specs.Laws.{SomeStateHas, IsOfConflict}
use Rattle.fed_resolve.proofs.Listed.{order-passes}
use Rattle.fed_resolve.proofs.Named.{entry-resolved}
use Rattle.fed_resolve.proofs.Unconflicteds.{entry-unconflicted}

-- an event stands at its own type and state key
pub own-key : (stored : Stored) (k : List ℕ) → state_key_in stored ≡ Some k → stands_at (kind_in stored) k stored ≡ true
unfolding stands_at
own-key stored k e = and_from (bytes_eq (kind_in stored) (kind_in stored)) (option_eq bytes_eq (Some k) (state_key_in stored)) (itself (kind_in stored)) (ap (option_eq bytes_eq (Some k)) e ∙ itself k)

module _ (events : List Stored) (states : List StateMap) where
  abbrev Origin : StateKey → List ℕ → Type 0
  Origin key id = SomeStateHas states key id ⊎ IsOfConflict events states key id

  abbrev Comes : StateMap → Type 0
  Comes state = (key : StateKey) (id : List ℕ) → finite.get state key ≡ Some id → Origin key id

  abbrev IsConflicted : ℕ → Type 0
  IsConflicted place = is_full_conflicted events states place ≡ true

  -- an event of the full conflicted set is laid over
  module _ (state : StateMap) (comes : Comes state) (place : ℕ) (conflicted : IsConflicted place) (stored : Stored) (there : slice_get events place ≡ Some stored) where
    entered : (k : List ℕ) → state_key_in stored ≡ Some k → Comes (with_entry state (kind_in stored) k (id_of stored))
    entered k e key id h = by (eq_by_cmp key_cmp key (kind_in stored, k)) refl (sym (finite.get-insert key_cmp_total state (kind_in stored, k) (id_of stored) key) ∙ h)
      where
        by : (b : Bool) → eq_by_cmp key_cmp key (kind_in stored, k) ≡ b → cond b (Some (id_of stored)) (finite.get state key) ≡ Some id → Origin key id
        by true t g =
            let same : key ≡ (kind_in stored, k) = key_cmp_same key (kind_in stored, k) (tied _ t) in
            inr (record {
              place = place;
              stored = stored;
              conflicted = conflicted;
              there = there;
              stands = ap (λ q. stands_at q.0 q.1 stored) same ∙ own-key stored k e;
              named = cc;
            })
        by false t g = comes key id g

    laid-comes : Comes (with_stored state stored)
    unfolding with_stored
    laid-comes = by (state_key_in stored) refl
      where
        by : (o : Option (List ℕ)) → state_key_in stored ≡ o → Comes (with_id_at state (kind_in stored) o (id_of stored))
        by None e = comes
        by (Some k) e = entered k e

    result-comes : (r : Result ⊤ Rule) → Comes (laid_over state stored r)
    result-comes (Ok done) = laid-comes
    result-comes (Err rule) = comes

  check-comes : (state : StateMap) → Comes state → (place : ℕ) → IsConflicted place → Comes (check events state place)
  check-comes state comes place conflicted = by (slice_get events place) refl
    where
      by : (o : Option Stored) → slice_get events place ≡ o → Comes (check_stored events state place o)
      by None e = comes
      by (Some stored) e = result-comes state comes place conflicted stored e (allowed_of events stored.event (completed events state place stored))

  checked-comes : (places : List ℕ) (state : StateMap) → Comes state → All IsConflicted places → Comes (checked events state places)
  checked-comes [] state comes all = comes
  checked-comes (place ∷ places) state comes all =
      checked-comes places (check events state place) (check-comes state comes place (All-head IsConflicted place places all)) (All-tail IsConflicted place places all)

  abbrev power_set : List ℕ
  power_set = members events (is_power events states)

  abbrev other_set : List ℕ
  other_set = members events (is_other events states)

  -- what is checked is of the full conflicted set
  pub power-conflicted : All IsConflicted (power_order events power_set)
  power-conflicted =
      order-passes IsConflicted (has_chain_listed events power_set) (is_before_in_power events) power_set
      (All-weaker (λ p. is_power events states p ≡ true) IsConflicted (λ p h. (and_parts (is_full_conflicted events states p) (is_power_place events p || is_below_power events states p) h).0)
      power_set (filter_passes (is_power events states) (places_below (length events))))

  pub all-conflicted : All IsConflicted (mainline_order events (levels_place events states) other_set)
  all-conflicted =
      order-passes IsConflicted at_once (is_before_in_mainline events (mainline events (levels_place events states))) other_set
      (All-weaker (λ p. is_other events states p ≡ true) IsConflicted (λ p h. (and_parts (is_full_conflicted events states p) (not (is_power events states p)) h).0)
      other_set (filter_passes (is_other events states) (places_below (length events))))

  module _ (start : Comes (unconflicted states)) where
    power-comes : Comes (power_state events states)
    power-comes = checked-comes (power_order events power_set) (unconflicted states) start power-conflicted

    all-comes : Comes (checked_state events states)
    all-comes = checked-comes (mainline_order events (levels_place events states) other_set) (power_state events states) power-comes all-conflicted

    resolved-comes : Comes (resolved_of events states)
    resolved-comes key id h = by (finite.get (unconflicted states) key) refl (sym (entry-resolved events states key) ∙ h)
      where
        by : (o : Option (List ℕ)) → finite.get (unconflicted states) key ≡ o → or o (finite.get (checked_state events states) key) ≡ Some id → Origin key id
        by None e g = all-comes key id g
        by (Some i) e g = start key id (e ∙ g)

-- the unconflicted state has entries of the first
unconflicted-comes : (states : List StateMap) (key : StateKey) (id : List ℕ) → finite.get (unconflicted states) key ≡ Some id → SomeStateHas states key id
unconflicted-comes [] key id h = let none = finite.get-empty {X = List ℕ} key_cmp key in absurd (cc)
unconflicted-comes (state ∷ states) key id h = by (agree_with state states key) (sym (entry-unconflicted state states key) ∙ h)
  where
    by : (b : Bool) → cond b (finite.get state key) None ≡ Some id → SomeStateHas (state ∷ states) key id
    by true g = (0, state, omega arith, refl, g)
    by false g = absurd (cc)

pub entries-come : (events : List Stored) (states : List StateMap) (key : StateKey) (id : List ℕ) → finite.get (resolved_of events states) key ≡ Some id
    → SomeStateHas states key id ⊎ IsOfConflict events states key id
entries-come events states = resolved-comes events states (λ key id h. inl (unconflicted-comes states key id h))
