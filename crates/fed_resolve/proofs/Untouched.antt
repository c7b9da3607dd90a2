-- At types and state keys at which no event of the full conflicted set stands, checks change nothing.
use Rattle.std.proofs.Common.{◌≡◌, ℕ, List, [], ◌∷◌, Bool, true, false, true≢false, cond, All, Option, None, Some, Result, Ok, Err, refl, sym, ap, ◌∙◌}
use Rattle.std.proofs.lemmas.List.Elements.{All-head, All-tail}
use Rattle.std.specs.Bool.{⊤}
use Rattle.std.specs.FinMap as finite
use Rattle.std.specs.List.{slice_get}
use Rattle.std.specs.Ordering.{eq_by_cmp}
use Rattle.fed_room_contract.specs.declared.rule.Rule.{Rule}
use Rattle.fed_room_contract.specs.declared.graph.Stored.{Stored}
use Rattle.fed_room_contract.specs.State.{StateKey, StateMap, key_cmp, with_entry}
use Rattle.fed_room_contract.specs.Graph.{id_of}
use Rattle.fed_room_contract.proofs.Changes.{all-keys}
use Rattle.fed_room_contract.proofs.Filled.{or, tied}
use Rattle.fed_room_contract.proofs.States.{key_cmp_total, key_cmp_same}
use Rattle.fed_auth.specs.AuthState.{kind_in, state_key_in, stands_at, with_id_at, with_stored}
use Rattle.fed_auth.specs.Allowed.{allowed_of}
use Rattle.fed_resolve.specs.Conflict.{is_full_conflicted, unconflicted}
use Rattle.fed_resolve.specs.ConflictParts.{AreKept, has_key}
use Rattle.fed_resolve.specs.Checks.{completed, laid_over, check_stored, check, checked}
use Rattle.fed_resolve.specs.Resolution.{checked_state, power_state, resolved_of, with_entries}
use Rattle.fed_resolve.proofs.Named.{entry-laid, entry-resolved}
use Rattle.fed_resolve.proofs.Origins.{all-conflicted, own-key, power-conflicted}

module _ (events : List Stored) (states : List StateMap) (key : StateKey)
    (none : (place : ℕ) (stored : Stored) → is_full_conflicted events states place ≡ true → slice_get events place ≡ Some stored → stands_at key.0 key.1 stored ≡ false) where
  abbrev IsConflicted : ℕ → Type 0
  IsConflicted place = is_full_conflicted events states place ≡ true

  module _ (state : StateMap) (place : ℕ) (conflicted : IsConflicted place) (stored : Stored) (there : slice_get events place ≡ Some stored) where
    entered : (k : List ℕ) → state_key_in stored ≡ Some k → finite.get (with_entry state (kind_in stored) k (id_of stored)) key ≡ finite.get state key
    entered k e = finite.get-insert key_cmp_total state (kind_in stored, k) (id_of stored) key ∙ by (eq_by_cmp key_cmp key (kind_in stored, k)) refl
      where
        by : (b : Bool) → eq_by_cmp key_cmp key (kind_in stored, k) ≡ b → cond b (Some (id_of stored)) (finite.get state key) ≡ finite.get state key
        by true t =
            let same : key ≡ (kind_in stored, k) = key_cmp_same key (kind_in stored, k) (tied _ t) in
            absurd (true≢false (sym (ap (λ (q : StateKey). stands_at q.0 q.1 stored) same ∙ own-key stored k e) ∙ none place stored conflicted there))
        by false t = refl

    laid-same : finite.get (with_stored state stored) key ≡ finite.get state key
    unfolding with_stored
    laid-same = by (state_key_in stored) refl
      where
        by : (o : Option (List ℕ)) → state_key_in stored ≡ o → finite.get (with_id_at state (kind_in stored) o (id_of stored)) key ≡ finite.get state key
        by None e = refl
        by (Some k) e = entered k e

    result-same : (r : Result ⊤ Rule) → finite.get (laid_over state stored r) key ≡ finite.get state key
    result-same (Ok done) = laid-same
    result-same (Err rule) = refl

  check-same : (state : StateMap) (place : ℕ) → IsConflicted place → finite.get (check events state place) key ≡ finite.get state key
  check-same state place conflicted = by (slice_get events place) refl
    where
      by : (o : Option Stored) → slice_get events place ≡ o → finite.get (check_stored events state place o) key ≡ finite.get state key
      by None e = refl
      by (Some stored) e = result-same state place conflicted stored e (allowed_of events stored.event (completed events state place stored))

  checked-same : (places : List ℕ) (state : StateMap) → All IsConflicted places → finite.get (checked events state places) key ≡ finite.get state key
  checked-same [] state all = refl
  checked-same (place ∷ places) state all =
      checked-same places (check events state place) (All-tail IsConflicted place places all) ∙ check-same state place (All-head IsConflicted place places all)

  untouched : finite.get (checked_state events states) key ≡ finite.get (unconflicted states) key
  untouched = checked-same _ (power_state events states) (all-conflicted events states) ∙ checked-same _ (unconflicted states) (power-conflicted events states)

-- what the states agree on, laid over at the keys at which checks may change something, is all that has to be laid over
pub laid-few : (events : List Stored) (states : List StateMap) (keys few : StateMap) → AreKept (unconflicted states) (finite.entries keys) few
    → ((place : ℕ) (stored : Stored) (key : StateKey) → is_full_conflicted events states place ≡ true → slice_get events place ≡ Some stored → stands_at key.0 key.1 stored ≡ true → finite.contains_key keys key ≡ true)
    → with_entries (checked_state events states) (finite.entries few) ≡ resolved_of events states
laid-few events states keys few kept each =
    finite.same_map key_cmp_total key_cmp_same _ _ (λ key. entry-laid few (checked_state events states) key ∙ by key (has_key (finite.entries keys) key) refl ∙ sym (entry-resolved events states key))
  where
    not-there : (b : Bool) → (b ≡ true → true ≡ false) → b ≡ false
    not-there true h = h refl
    not-there false h = refl

    own : (o p : Option (List ℕ)) → p ≡ o → p ≡ or o p
    own None p e = refl
    own (Some x) p e = e

    by : (key : StateKey) (b : Bool) → has_key (finite.entries keys) key ≡ b
        → or (finite.get few key) (finite.get (checked_state events states) key) ≡ or (finite.get (unconflicted states) key) (finite.get (checked_state events states) key)
    by key true t =
        let here : finite.get few key ≡ finite.get (unconflicted states) key = kept.each key ∙ ap (λ b. cond b (finite.get (unconflicted states) key) None) t in
        ap (λ o. or o (finite.get (checked_state events states) key)) here
    by key false t =
        let gone : finite.get few key ≡ None = kept.each key ∙ ap (λ b. cond b (finite.get (unconflicted states) key) None) t in
        let missing : finite.contains_key keys key ≡ false = sym (all-keys keys key) ∙ t in
        let same = untouched events states key (λ place stored conflicted there. not-there (stands_at key.0 key.1 stored) (λ stands. sym (each place stored key conflicted there stands) ∙ missing)) in
        ap (λ o. or o (finite.get (checked_state events states) key)) gone ∙ own (finite.get (unconflicted states) key) (finite.get (checked_state events states) key) same
