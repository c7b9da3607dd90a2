-- The iterative auth checks of stored events, as events come behind.
use Rattle.std.proofs.Common.{◌≡◌, ◌<◌, ℕ, List, [], ◌∷◌, ◌++◌, Bool, true, false, true≢false, cond, All, Option, None, Some, is_some, IfSome, length, option_map, option_and_then, refl, sym, ap, ◌∙◌, arith}
use Rattle.std.proofs.lemmas.List.Elements.{All-head, All-tail, All-nil, All-cons}
use Rattle.std.specs.List.{filter_map, cons_option, find, slice_get}
use Rattle.fed_event.specs.Checked.{CheckedEvent}
use Rattle.fed_room_contract.specs.declared.graph.Stored.{Stored}
use Rattle.fed_room_contract.specs.State.{StateKey, StateMap, entry_at, with_entry}
use Rattle.fed_room_contract.specs.Graph.{IsAuthGraph, has_id, id_of, is_stored, stored_at}
use Rattle.fed_room_contract.specs.Lawful.{NamesStored}
use Rattle.fed_room_contract.proofs.Graphs.{stored_at-++}
use Rattle.fed_room_contract.proofs.Positions.{is_some-find}
use Rattle.fed_auth.specs.AuthState.{is_rejected, stands_at}
use Rattle.fed_auth.specs.Selection.{selector_of, selection_keys}
use Rattle.fed_auth.specs.StateView.{event_in}
use Rattle.fed_auth.specs.Table.{decide}
use Rattle.fed_auth.specs.Allowed.{allowed_of, rule_table}
use Rattle.fed_resolve.specs.Chain.{auths_at}
use Rattle.fed_resolve.specs.Checks.{with_auth, with_key, with_keys, completed, laid_over, check_stored, check, checked}
use Rattle.fed_resolve.proofs.Agreement.{find-passes}
use Rattle.fed_resolve.proofs.Grown.{slice_get-front, auth_events-same}
use Rattle.fed_resolve.proofs.Named.{stored_there, laid, named-check}

-- the event is stored
abbrev IsOf : List Stored → Stored → Type 0
IsOf events stored = is_stored events (id_of stored) ≡ true

auths_are_stored : (events : List Stored) (places : List ℕ) → All (IsOf events) (filter_map (slice_get events) places)
auths_are_stored events [] = All-nil (IsOf events)
auths_are_stored events (p ∷ places) = by (slice_get events p) refl (auths_are_stored events places)
  where
    by : (o : Option Stored) → slice_get events p ≡ o → All (IsOf events) (filter_map (slice_get events) places) → All (IsOf events) (cons_option o (filter_map (slice_get events) places))
    by None e rest = rest
    by (Some stored) e rest = All-cons (IsOf events) stored (filter_map (slice_get events) places) (stored_there events p stored e) rest

-- the state that an event is checked by names stored events
module _ (events : List Stored) (auths : List Stored) (stored : All (IsOf events) auths) where
  named-auth : (state : StateMap) (key : StateKey) → NamesStored events state → (o : Option Stored) → IfSome o (IsOf events) → NamesStored events (with_auth state key o)
  named-auth state key named None h = named
  named-auth state key named (Some auth) h = by (is_rejected auth)
    where
      by : (b : Bool) → NamesStored events (cond b state (with_entry state key.0 key.1 (id_of auth)))
      by true = named
      by false = laid events state key.0 key.1 (id_of auth) named h

  named-key : (state : StateMap) (key : Option StateKey) → NamesStored events state → NamesStored events (with_key auths state key)
  named-key state None named = named
  named-key state (Some key) named = by (is_some (entry_at state key.0 key.1))
    where
      by : (b : Bool) → NamesStored events (cond b state (with_auth state key (find (stands_at key.0 key.1) auths)))
      by true = named
      by false = named-auth state key named (find (stands_at key.0 key.1) auths) (find-passes (IsOf events) (stands_at key.0 key.1) auths stored)

  named-keys : (keys : List (Option StateKey)) (state : StateMap) → NamesStored events state → NamesStored events (with_keys auths state keys)
  named-keys [] state named = named
  named-keys (key ∷ keys) state named = named-keys keys (with_key auths state key) (named-key state key named)

pub named-completed : (events : List Stored) (state : StateMap) (place : ℕ) (stored : Stored) → NamesStored events state → NamesStored events (completed events state place stored)
named-completed events state place stored named =
    named-keys events (filter_map (slice_get events) (auths_at events place)) (auths_are_stored events (auths_at events place)) (selection_keys (selector_of stored.event.event)) state named

module _ (events more : List Stored) (graph : IsAuthGraph (events ++ more)) where
  found-same : (id : List ℕ) → is_stored events id ≡ true → stored_at (events ++ more) id ≡ stored_at events id
  found-same id h = by (stored_at events id) refl
    where
      by : (o : Option Stored) → stored_at events id ≡ o → stored_at (events ++ more) id ≡ o
      by None none = absurd (true≢false (sym h ∙ sym (is_some-find (has_id id) events) ∙ ap is_some none))
      by (Some stored) some = stored_at-++ events more id stored some

  -- what a state says that names stored events
  look-same : (state : StateMap) → NamesStored events state → event_in (events ++ more) state ≡ event_in events state
  unfolding event_in
  look-same state named = λ i kind key. option_map (λ stored. stored.event.event) (by kind key (entry_at state kind key) refl i)
    where
      by : (kind key : List ℕ) (o : Option (List ℕ)) → entry_at state kind key ≡ o → option_and_then (stored_at (events ++ more)) o ≡ option_and_then (stored_at events) o
      by kind key None e = refl
      by kind key (Some id) e = found-same id (named kind key id e)

  allowed-same : (state : StateMap) (event : CheckedEvent) (p : ℕ) → p < length events → NamesStored events state → allowed_of (events ++ more) event state ≡ allowed_of events event state
  allowed-same state event p below named = λ i.
      decide (rule_table (look-same state named i) (option_map id_of (slice_get-front events more 0 (omega arith) i)) event)

  check-same : (state : StateMap) (p : ℕ) → p < length events → NamesStored events state → check (events ++ more) state p ≡ check events state p
  check-same state p below named = ap (check_stored (events ++ more) state p) (slice_get-front events more p below) ∙ by (slice_get events p)
    where
      by : (o : Option Stored) → check_stored (events ++ more) state p o ≡ check_stored events state p o
      by None = refl
      by (Some stored) =
          ap (λ auths. laid_over state stored (allowed_of (events ++ more) stored.event (with_keys auths state (selection_keys (selector_of stored.event.event))))) (auth_events-same events more graph p below)
          ∙ ap (laid_over state stored) (allowed-same (completed events state p stored) stored.event p below (named-completed events state p stored named))

  pub checked-same : (places : List ℕ) (state : StateMap) → All (λ p. p < length events) places → NamesStored events state → checked (events ++ more) state places ≡ checked events state places
  checked-same [] state within named = refl
  checked-same (p ∷ places) state within named =
      ap (λ after. checked (events ++ more) after places) (check-same state p (All-head (λ q. q < length events) p places within) named)
      ∙ checked-same places (check events state p) (All-tail (λ q. q < length events) p places within) (named-check events state p named)
