-- States that name stored events alone, through the steps of state resolution.
use Rattle.std.proofs.Common.{◌≡◌, ℕ, List, [], ◌∷◌, Bool, true, false, cond, Option, None, Some, Result, Ok, Err, refl, sym, ap, ◌∙◌}
use Rattle.std.proofs.lemmas.List.Elements.{All-head}
use Rattle.std.proofs.lemmas.List.Folds.{list_any_at}
use Rattle.std.proofs.lemmas.Option.{slice_get_within, get_or_from_slice_get}
use Rattle.std.specs.Bool.{⊤}
use Rattle.std.specs.FinMap as finite
use Rattle.std.specs.FinMap.{find}
use Rattle.std.specs.List.{slice_get}
use Rattle.std.specs.Ordering.{eq_by_cmp}
use Rattle.fed_room_contract.specs.declared.rule.Rule.{Rule}
use Rattle.fed_room_contract.specs.declared.graph.Stored.{Stored}
use Rattle.fed_room_contract.specs.State.{StateKey, StateMap, key_cmp, entry_at, with_entry}
use Rattle.fed_room_contract.specs.Graph.{has_id, id_of, is_stored}
use Rattle.fed_room_contract.specs.Lawful.{NamesStored}
use Rattle.fed_room_contract.proofs.Filled.{or}
use Rattle.fed_room_contract.proofs.States.{key_cmp_total}
use Rattle.fed_auth.specs.AuthState.{kind_in, state_key_in, with_id_at, with_stored}
use Rattle.fed_auth.specs.Allowed.{allowed_of}
use Rattle.fed_auth.proofs.AuthStates.{itself}
use Rattle.fed_resolve.specs.Conflict.{unconflicted, agree_with}
use Rattle.fed_resolve.specs.Checks.{laid_over, check_stored, check, checked, completed}
use Rattle.fed_resolve.specs.Chain.{members}
use Rattle.fed_resolve.specs.PowerOrder.{power_order}
use Rattle.fed_resolve.specs.Mainline.{mainline_order}
use Rattle.fed_resolve.specs.Resolution.{with_entries, is_power, is_other, power_state, levels_place, checked_state, resolved_of}
use Rattle.fed_resolve.specs.Laws.{AllNameStored}
use Rattle.fed_resolve.proofs.Unconflicteds.{entry-unconflicted}
use Rattle.fed_resolve.proofs.Resolved.{laid-here, laid-other}

-- the event at a place is stored
pub stored_there : (events : List Stored) (place : ℕ) (stored : Stored) → slice_get events place ≡ Some stored → is_stored events (id_of stored) ≡ true
stored_there events place stored h =
    list_any_at (has_id (id_of stored)) events place stored (slice_get_within events place stored h)
    (ap (has_id (id_of stored)) (get_or_from_slice_get events place stored stored h) ∙ itself (id_of stored))

module _ (events : List Stored) where
  pub laid : (state : StateMap) (kind key id : List ℕ) → NamesStored events state → is_stored events id ≡ true → NamesStored events (with_entry state kind key id)
  laid state kind key id named stored k s i h = by (eq_by_cmp key_cmp (k, s) (kind, key)) (sym (finite.get-insert key_cmp_total state (kind, key) id (k, s)) ∙ h)
    where
      by : (b : Bool) → cond b (Some id) (entry_at state k s) ≡ Some i → is_stored events i ≡ true
      by true e = let same : id ≡ i = cc in ap (is_stored events) (sym same) ∙ stored
      by false e = named k s i e

  laid_event : (state : StateMap) (stored : Stored) → NamesStored events state → is_stored events (id_of stored) ≡ true → NamesStored events (with_stored state stored)
  unfolding with_stored
  laid_event state stored named is = by (state_key_in stored)
    where
      by : (o : Option (List ℕ)) → NamesStored events (with_id_at state (kind_in stored) o (id_of stored))
      by None = named
      by (Some key) = laid state (kind_in stored) key (id_of stored) named is

  pub named-check : (state : StateMap) (place : ℕ) → NamesStored events state → NamesStored events (check events state place)
  named-check state place named = by (slice_get events place) refl
    where
      after : (stored : Stored) → slice_get events place ≡ Some stored → (r : Result ⊤ Rule) → NamesStored events (laid_over state stored r)
      after stored e (Ok done) = laid_event state stored named (stored_there events place stored e)
      after stored e (Err rule) = named

      by : (o : Option Stored) → slice_get events place ≡ o → NamesStored events (check_stored events state place o)
      by None e = named
      by (Some stored) e = after stored e (allowed_of events stored.event (completed events state place stored))

  pub named-checked : (places : List ℕ) (state : StateMap) → NamesStored events state → NamesStored events (checked events state places)
  named-checked [] state named = named
  named-checked (place ∷ places) state named = named-checked places (check events state place) (named-check state place named)

  pub named-unconflicted : (states : List StateMap) → AllNameStored events states → NamesStored events (unconflicted states)
  named-unconflicted [] all kind key id h = let none = finite.get-empty {X = List ℕ} key_cmp (kind, key) in absurd (cc)
  named-unconflicted (state ∷ states) all kind key id h = by (agree_with state states (kind, key)) (sym (entry-unconflicted state states (kind, key)) ∙ h)
    where
      by : (b : Bool) → cond b (entry_at state kind key) None ≡ Some id → is_stored events id ≡ true
      by true e = All-head (NamesStored events) state states all kind key id e
      by false e = absurd (cc)

-- ---- what stands at a key in the end

pub entry-laid : (other state : StateMap) (q : StateKey) → finite.get (with_entries state (finite.entries other)) q ≡ or (finite.get other q) (finite.get state q)
entry-laid other state q = by (find key_cmp q (finite.entries other)) refl ∙ ap (λ o. or o (finite.get state q)) (sym (finite.get-entries other q))
  where
    by : (o : Option (List ℕ)) → find key_cmp q (finite.entries other) ≡ o → finite.get (with_entries state (finite.entries other)) q ≡ or (find key_cmp q (finite.entries other)) (finite.get state q)
    by None e = laid-other (finite.entries other) state q e ∙ ap (λ o. or o (finite.get state q)) (sym e)
    by (Some id) e = laid-here (finite.entries other) state q id (finite.entries_sorted other) e ∙ ap (λ o. or o (finite.get state q)) (sym e)

pub entry-resolved : (events : List Stored) (states : List StateMap) (q : StateKey)
    → finite.get (resolved_of events states) q ≡ or (finite.get (unconflicted states) q) (finite.get (checked_state events states) q)
entry-resolved events states q = entry-laid (unconflicted states) (checked_state events states) q

pub named-resolved : (events : List Stored) (states : List StateMap) → AllNameStored events states → NamesStored events (resolved_of events states)
named-resolved events states all kind key id h = by (entry_at (unconflicted states) kind key) refl (sym (entry-resolved events states (kind, key)) ∙ h)
  where
    start : NamesStored events (unconflicted states)
    start = named-unconflicted events states all

    by : (o : Option (List ℕ)) → entry_at (unconflicted states) kind key ≡ o → or o (entry_at (checked_state events states) kind key) ≡ Some id → is_stored events id ≡ true
    by None none e =
        named-checked events (mainline_order events (levels_place events states) (members events (is_other events states))) (power_state events states)
        (named-checked events (power_order events (members events (is_power events states))) (unconflicted states) start) kind key id e
    by (Some i) some e = start kind key id (some ∙ e)
