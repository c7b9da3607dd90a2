-- What holds of all resolved states.
use Rattle.fed_auth.proofs.AuthStates.{itself}
use Rattle.std.specs.Option.{option_eq}
use Rattle.std.proofs.Common.{Option, ◌≡◌, ℕ, List, [], ◌∷◌, false, length, ap, sym, ◌∙◌, refl, arith, cond, true, Bool, None, Some, T, not, ◌&&◌, ◌||◌, bytes_eq}
use Rattle.std.specs.Prelude.{codes, option_and_then}
use Rattle.std.specs.List.{filter, list_any}
use Rattle.std.specs.FinMap as finite
use Rattle.std.specs.FinMap.{find, is_sorted}
use Rattle.std.specs.Ordering.{eq_by_cmp}
use Rattle.fed_room_contract.proofs.Filled.{first, second, tied, absent}
use Rattle.fed_room_contract.proofs.States.{key_cmp_total, key_cmp_same}
use Rattle.fed_resolve.specs.Conflict.{unconflicted, agree_with, is_full_conflicted, is_in_difference}
use Rattle.fed_room_contract.specs.declared.graph.Stored.{Stored}
use Rattle.fed_room_contract.specs.State.{StateKey, StateMap, key_cmp, entry_at}
use Rattle.fed_resolve.specs.Chain.{members, place_of, places_below, is_entry_at, is_in_full_chain}
use Rattle.fed_resolve.specs.PowerOrder.{power_order, is_power_place}
use Rattle.fed_resolve.specs.Mainline.{mainline_order}
use Rattle.fed_resolve.specs.Checks.{checked}
use Rattle.fed_resolve.specs.Resolution.{resolved_of, is_other, with_entries, checked_state, is_power, is_below_power}

filter_none : {X : Type 0} (xs : List X) → filter (λ x. false) xs ≡ []
filter_none [] = refl
filter_none (x ∷ xs) = filter_none xs

nothing : {X : Type 0} (xs : List X) → length xs ≡ 0 → xs ≡ []
nothing [] e = refl
nothing (x ∷ xs) e = absurd (omega arith)

none_entered : finite.entries (finite.empty {X = List ℕ} {R = key_cmp}) ≡ []
none_entered = nothing _ (sym (finite.len-entries finite.empty) ∙ finite.len-empty key_cmp (List ℕ))

-- the steps after the unconflicted state, which is empty, by what is to be checked
abbrev steps : List Stored → List ℕ → List ℕ → StateMap
steps events power others =
    with_entries
    (checked events (checked events finite.empty (power_order events power))
    (mainline_order events (option_and_then (place_of events) (entry_at (checked events finite.empty (power_order events power)) (codes "m.room.power_levels") [])) others))
    (finite.entries (finite.empty {X = List ℕ} {R = key_cmp}))

pub none-resolved : (events : List Stored) → resolved_of events [] ≡ finite.empty
none-resolved events =
    ap (λ power. steps events power (members events (is_other events []))) (filter_none (places_below (length events)))
    ∙ ap (λ others. steps events [] others) (filter_none (places_below (length events)))
    ∙ ap (λ (entries : List (StateKey × List ℕ)). with_entries finite.empty entries) none_entered

-- ---- entries that are laid over

pub laid-other : (es : List (StateKey × List ℕ)) (state : StateMap) (q : StateKey) → find key_cmp q es ≡ None → finite.get (with_entries state es) q ≡ finite.get state q
laid-other [] state q none = refl
laid-other (e ∷ es) state q none = by (laid-other es (finite.insert state e.0 e.1) q) (eq_by_cmp key_cmp q e.0) refl none
  where
    by : (find key_cmp q es ≡ None → finite.get (with_entries (finite.insert state e.0 e.1) es) q ≡ finite.get (finite.insert state e.0 e.1) q) → (b : Bool) → eq_by_cmp key_cmp q e.0 ≡ b
        → cond b (Some e.1) (find key_cmp q es) ≡ None → finite.get (with_entries (finite.insert state e.0 e.1) es) q ≡ finite.get state q
    by rest true t h = absurd (cc)
    by rest false t h = rest h ∙ finite.get-insert key_cmp_total state e.0 e.1 q ∙ ap (λ b. cond b (Some e.1) (finite.get state q)) t

pub laid-here : (es : List (StateKey × List ℕ)) (state : StateMap) (q : StateKey) (id : List ℕ) → T (is_sorted key_cmp es) → find key_cmp q es ≡ Some id → finite.get (with_entries state es) q ≡ Some id
laid-here [] state q id sorted found = absurd (cc)
laid-here (e ∷ es) state q id sorted found = by (laid-here es (finite.insert state e.0 e.1) q id (second _ _ sorted)) (eq_by_cmp key_cmp q e.0) refl found
  where
    by : (find key_cmp q es ≡ Some id → finite.get (with_entries (finite.insert state e.0 e.1) es) q ≡ Some id) → (b : Bool) → eq_by_cmp key_cmp q e.0 ≡ b
        → cond b (Some e.1) (find key_cmp q es) ≡ Some id → finite.get (with_entries (finite.insert state e.0 e.1) es) q ≡ Some id
    by rest true t h =
        laid-other es (finite.insert state e.0 e.1) q (absent key_cmp_total q e.0 es (tied _ t) (first _ _ sorted))
        ∙ finite.get-insert key_cmp_total state e.0 e.1 q ∙ ap (λ b. cond b (Some e.1) (finite.get state q)) t ∙ h
    by rest false t h = rest h

-- what all states agree on stays
pub agreed-stays : (events : List Stored) (states : List StateMap) (q : StateKey) (id : List ℕ) → finite.get (unconflicted states) q ≡ Some id → finite.get (resolved_of events states) q ≡ Some id
agreed-stays events states q id h =
    laid-here (finite.entries (unconflicted states)) (checked_state events states) q id (finite.entries_sorted (unconflicted states)) (sym (finite.get-entries (unconflicted states) q) ∙ h)

-- ---- one state

filter_empty : {X : Type 0} (p : X → Bool) (xs : List X) → ((x : X) → p x ≡ false) → filter p xs ≡ []
filter_empty p [] none = refl
filter_empty p (x ∷ xs) none = ap (λ b. cond b (x ∷ filter p xs) (filter p xs)) (none x) ∙ filter_empty p xs none

any_none : {X : Type 0} (p : X → Bool) (xs : List X) → ((x : X) → p x ≡ false) → list_any p xs ≡ false
any_none p [] none = refl
any_none p (x ∷ xs) none = ap (λ b. b || list_any p xs) (none x) ∙ any_none p xs none

own_id : (o : Option (List ℕ)) → option_eq bytes_eq o o ≡ true
own_id None = refl
own_id (Some id) = itself id

differs_not : (b : Bool) → ((b || false) && not (b && true)) ≡ false
differs_not true = refl
differs_not false = refl

module _ (events : List Stored) (state : StateMap) where
  abbrev one : List StateMap
  one = state ∷ []

  all_agree : unconflicted one ≡ state
  all_agree = finite.same_map key_cmp_total key_cmp_same _ _ (λ q. finite.get-retain_keys state (agree_with state []) q (λ x h. refl))

  none_conflicted : (p : ℕ) → is_full_conflicted events one p ≡ false
  none_conflicted p =
      ap (λ b. (b || false) || is_in_difference events one p)
      (any_none (λ (entry : StateKey × List ℕ). not (agree_with state one entry.0) && is_entry_at events p entry.1) (finite.entries state) (λ entry. ap (λ b. not (b && true) && is_entry_at events p entry.1) (own_id (finite.get state entry.0))))
      ∙ differs_not (is_in_full_chain events state p)

  abbrev after : StateMap → List ℕ → List ℕ → StateMap
  after start power others =
      with_entries
      (checked events (checked events start (power_order events power))
      (mainline_order events (option_and_then (place_of events) (entry_at (checked events start (power_order events power)) (codes "m.room.power_levels") [])) others))
      (finite.entries start)

  laid-itself : (q : StateKey) (o : Option (List ℕ)) → find key_cmp q (finite.entries state) ≡ o → finite.get (with_entries state (finite.entries state)) q ≡ finite.get state q
  laid-itself q None h = laid-other (finite.entries state) state q h
  laid-itself q (Some id) h = laid-here (finite.entries state) state q id (finite.entries_sorted state) h ∙ sym h ∙ sym (finite.get-entries state q)

  -- one state resolves to itself
  pub one-resolved : resolved_of events one ≡ state
  one-resolved =
      ap (λ start. after start (members events (is_power events one)) (members events (is_other events one))) all_agree
      ∙ ap (λ power. after state power (members events (is_other events one))) (filter_empty (is_power events one) (places_below (length events)) (λ p. ap (λ b. b && (is_power_place events p || is_below_power events one p)) (none_conflicted p)))
      ∙ ap (λ others. after state [] others) (filter_empty (is_other events one) (places_below (length events)) (λ p. ap (λ b. b && not (is_power events one p)) (none_conflicted p)))
      ∙ finite.same_map key_cmp_total key_cmp_same _ _ (λ q. laid-itself q (find key_cmp q (finite.entries state)) refl)
