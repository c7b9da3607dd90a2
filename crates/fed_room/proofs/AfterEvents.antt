-- The states after the events of a room.
use Rattle.std.proofs.Common.{◌≡◌, ℕ, zero, suc, ◌+◌, ◌≤◌, List, [], ◌∷◌, ◌++◌, append_assoc, append-nil, length, length-append, Bool, true, false, cond, true≢false, Option, None, Some, refl, sym, ap, ◌∙◌, subst, if◌then◌else◌, arith}
use Rattle.std.proofs.lemmas.Slice.Eq.{bytes_eq-Decides}
use Rattle.std.specs.List.{list_all}
use Rattle.fed_event.specs.Fields.{prev_events_of}
use Rattle.fed_room_contract.specs.declared.graph.Stored.{Stored}
use Rattle.fed_room_contract.specs.State.{StateMap}
use Rattle.fed_room_contract.specs.Graph.{IsGraph, id_of, has_id, stored_at, is_stored}
use Rattle.fed_room_contract.proofs.Graphs.{graph_front, graph_last, stored_at-++}
use Rattle.fed_auth.specs.AuthState.{kind_in, state_key_in, is_rejected, with_id_at, with_stored}
use Rattle.fed_resolve.specs.Resolution.{resolved_of}
use Rattle.fed_room.specs.Laws.{IsAfter, before_by, AreStatesAfter}
use Rattle.fed_room.specs.RoomLawful.{map_alike, prev_stored, found_stored, in_middle, standing, after-more, after-last, resolved_after-more}
use Rattle.fed_room.specs.States.{state_with, state_after, resolved_after}

-- the entry of a state event that was not rejected is laid over
with-is : (before : StateMap) (stored : Stored) → IsAfter before stored (state_with before stored)
unfolding with_stored
with-is before stored = by (is_rejected stored) refl (state_key_in stored) refl
  where
    by : (b : Bool) → is_rejected stored ≡ b → (o : Option (List ℕ)) → state_key_in stored ≡ o
        → IsAfter before stored (if b then before else with_id_at before (kind_in stored) o (id_of stored))
    by true t o e = record {
      rejected = λ h. refl;
      message = λ h. refl;
      laid_over = λ key h k. absurd (true≢false (sym t ∙ h));
    }
    by false f None e = record {
      rejected = λ h. refl;
      message = λ h. refl;
      laid_over = λ key h k. absurd (cc);
    }
    by false f (Some key) e = record {
      rejected = λ h. absurd (true≢false (sym h ∙ f));
      message = λ h. absurd (cc);
      laid_over = λ other h k. let same : key ≡ other = cc in ap (λ (k : List ℕ). with_id_at before (kind_in stored) (Some k) (id_of stored)) same;
    }

found_has : (id : List ℕ) (events : List Stored) (stored : Stored) → stored_at events id ≡ Some stored → has_id id stored ≡ true
found_has id [] stored h = absurd (cc)
found_has id (x ∷ events) stored h = by (has_id id x) refl h (found_has id events stored)
  where
    by : (b : Bool) → has_id id x ≡ b → cond b (Some x) (stored_at events id) ≡ Some stored → (stored_at events id ≡ Some stored → has_id id stored ≡ true) → has_id id stored ≡ true
    by true t e rest = let same : x ≡ stored = cc in ap (has_id id) (sym same) ∙ t
    by false t e rest = rest e

-- and no other state is after it
only-with : (before after : StateMap) (stored : Stored) → IsAfter before stored after → after ≡ state_with before stored
unfolding with_stored
only-with before after stored is = by (is_rejected stored) refl (state_key_in stored) refl
  where
    by : (b : Bool) → is_rejected stored ≡ b → (o : Option (List ℕ)) → state_key_in stored ≡ o → after ≡ (if b then before else with_id_at before (kind_in stored) o (id_of stored))
    by true t o e = is.rejected t
    by false f None e = is.message e
    by false f (Some key) e = is.laid_over key f e

module _ (events : List Stored) (graph : IsGraph events) where
  -- the state after a stored event, by the state before it
  after-front : (front : List Stored) (stored : Stored) (back : List Stored) → events ≡ front ++ stored ∷ back → state_after events (id_of stored) ≡ state_with (before_by events (state_after events) stored.event.event) stored
  unfolding resolved_after
  after-front front stored back e =
      subst (λ (es : List Stored). state_after es (id_of stored) ≡ state_with (resolved_after es (prev_events_of stored.event.event)) stored) (sym e) whole
    where
      all : List Stored
      all = front ++ stored ∷ back

      split : (front ++ stored ∷ []) ++ back ≡ all
      split = append_assoc front (stored ∷ []) back

      is_graph : IsGraph all
      is_graph = subst IsGraph e graph

      shorter : IsGraph (front ++ stored ∷ [])
      shorter = graph_front (front ++ stored ∷ []) back (subst IsGraph (sym split) is_graph)

      here : is_stored (front ++ stored ∷ []) (id_of stored) ≡ true
      here = in_middle (front ++ stored ∷ []) front stored [] refl

      prev : list_all (is_stored front) (prev_events_of stored.event.event) ≡ true
      prev = prev_stored front stored.event.event (graph_last front stored shorter).ready

      whole : state_after all (id_of stored) ≡ state_with (resolved_after all (prev_events_of stored.event.event)) stored
      whole =
          ap (λ (es : List Stored). state_after es (id_of stored)) (sym split)
          ∙ after-more (front ++ stored ∷ []) back (subst IsGraph (sym split) is_graph) (id_of stored) here
          ∙ after-last front stored shorter
          ∙ ap (λ state. state_with state stored) (sym (resolved_after-more front (stored ∷ back) is_graph (prev_events_of stored.event.event) prev))

  pub after-are : AreStatesAfter events (state_after events)
  after-are = record {
    each = λ stored found.
        let there = standing events (id_of stored) (found_stored events (id_of stored) stored found) in
        let same : there.0 ≡ stored = cc in
        let split : events ≡ there.1.0 ++ stored ∷ there.1.1.0 = there.1.1.1.1 ∙ ap (λ (s : Stored). there.1.0 ++ s ∷ there.1.1.0) same in
        subst (IsAfter (before_by events (state_after events) stored.event.event) stored) (sym (after-front there.1.0 stored there.1.1.0 split))
        (with-is (before_by events (state_after events) stored.event.event) stored);
  }

  -- no others are the states after the events
  module _ (after : List ℕ → StateMap) (are : AreStatesAfter events after) where
    only-front : (n : ℕ) (front rest : List Stored) (id : List ℕ) → events ≡ front ++ rest → is_stored front id ≡ true → length front ≤ n → after id ≡ state_after events id
    only-front n [] rest id e is few = absurd (true≢false (sym is))
    only-front zero (x ∷ front) rest id e is few = absurd (omega (arith, few))
    only-front (suc n) (x ∷ front) rest id e is few =
        let there = standing (x ∷ front) id is in
        let stored = there.0 in
        let before = there.1.0 in
        let found : stored_at events id ≡ Some stored = ap (λ (es : List Stored). stored_at es id) e ∙ stored_at-++ (x ∷ front) rest id stored there.1.1.1.0 in
        let whole : events ≡ before ++ stored ∷ (there.1.1.0 ++ rest) = e ∙ ap (λ (es : List Stored). es ++ rest) there.1.1.1.1 ∙ append_assoc before (stored ∷ there.1.1.0) rest in
        let next = graph.each before stored (there.1.1.0 ++ rest) whole in
        let long : length (x ∷ front) ≡ length before + suc (length there.1.1.0) = ap length there.1.1.1.1 ∙ length-append before (stored ∷ there.1.1.0) in
        let same : id_of stored ≡ id = (bytes_eq-Decides (id_of stored) id).0 (found_has id events stored found) in
        let itself : stored_at events (id_of stored) ≡ Some stored = ap (stored_at events) same ∙ found in
        let states = map_alike after (state_after events) (is_stored before)
        (λ other t. only-front n before (stored ∷ (there.1.1.0 ++ rest)) other whole t (omega (arith, long, few)))
        (prev_events_of stored.event.event) (prev_stored before stored.event.event next.ready) in
        ap after (sym same)
        ∙ only-with (before_by events after stored.event.event) (after (id_of stored)) stored (are.each stored itself)
        ∙ ap (λ (ss : List StateMap). state_with (resolved_of events ss) stored) states
        ∙ sym (after-front before stored (there.1.1.0 ++ rest) whole)
        ∙ ap (state_after events) same

    pub after-only : (id : List ℕ) → is_stored events id ≡ true → after id ≡ state_after events id
    after-only id is = only-front (length events) events [] id (sym (append-nil events)) is (omega arith)
