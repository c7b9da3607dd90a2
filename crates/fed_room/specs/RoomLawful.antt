-- The rules of a room by the standard are such as every room relies on. It is a proof, and stands here since what an `impl` cites has to.
use Rattle.std.proofs.Common.{◌≡◌, ◌≤◌, ◌+◌, ℕ, zero, suc, List, [], ◌∷◌, ◌++◌, append_assoc, map, length, Bool, true, false, ◌&&◌, ◌||◌, cond, true≢false, Option, None, Some, refl, sym, ap, ◌∙◌, arith, if◌then◌else◌, All, length-append}
use Rattle.std.proofs.lemmas.List.{map-append}
use Rattle.std.proofs.lemmas.List.Elements.{All-cons}
use Rattle.std.specs.FinMap as finite
use Rattle.std.specs.List.{list_all}
use Rattle.fed_event.specs.Event.{Event}
use Rattle.fed_event.specs.Fields.{prev_events_of, auth_events_of}
use Rattle.fed_room_contract.specs.declared.graph.Stored.{Stored}
use Rattle.fed_room_contract.specs.State.{StateMap, key_cmp}
use Rattle.fed_room_contract.specs.Graph.{IsGraph, id_of, has_id, stored_at, is_stored, is_ready}
use Rattle.fed_room_contract.specs.Lawful.{NamesStored, AreLawful}
use Rattle.fed_room_contract.specs.Room.{extremities_of}
use Rattle.fed_room_contract.proofs.Graphs.{graph_front, graph_last, stored_at-++, stored_at-last}
use Rattle.fed_room_contract.proofs.AuthGraphs.{auth_graph}
use Rattle.fed_room_contract.proofs.Rooms.{stored_is_ready}
use Rattle.fed_auth.specs.AuthState.{is_rejected, kind_in, state_key_in, with_id_at, with_stored}
use Rattle.fed_auth.proofs.AuthStates.{itself}
use Rattle.fed_resolve.specs.Resolution.{resolved_of}
use Rattle.fed_resolve.proofs.Named.{laid}
use Rattle.fed_resolve.proofs.Ancestry.{names_stored, later_events}
use Rattle.fed_room.specs.Lawful.{parts_bear}
use Rattle.fed_room.specs.Links.{links_of}
use Rattle.fed_room.specs.States.{state_with, state_with_found, after_within, state_after, resolved_after, state_before, states_after}
use Rattle.fed_room.specs.Room.{room_rules}

-- ---- lists

pub map_alike : {X : Type 0} (f g : List ℕ → X) (p : List ℕ → Bool) → ((id : List ℕ) → p id ≡ true → f id ≡ g id) → (ids : List (List ℕ)) → list_all p ids ≡ true → map f ids ≡ map g ids
map_alike f g p same [] h = refl
map_alike f g p same (id ∷ ids) h = by (p id) refl h (map_alike f g p same ids)
  where
    by : (b : Bool) → p id ≡ b → (b && list_all p ids) ≡ true → (list_all p ids ≡ true → map f ids ≡ map g ids) → f id ∷ map f ids ≡ g id ∷ map g ids
    by true t rest more = λ i. same id t i ∷ more rest i
    by false t rest more = absurd (true≢false (sym rest))

all_mapped : {X : Type 0} (P : X → Type 0) (f : List ℕ → X) → ((id : List ℕ) → P (f id)) → (ids : List (List ℕ)) → All P (map f ids)
all_mapped P f each [] = λ k d h. absurd (omega (arith, h))
all_mapped P f each (id ∷ ids) = All-cons P (f id) (map f ids) (each id) (all_mapped P f each ids)

front_all : {X : Type 0} (p : X → Bool) (xs ys : List X) → list_all p (xs ++ ys) ≡ true → list_all p xs ≡ true
front_all p [] ys h = refl
front_all p (x ∷ xs) ys h = by (p x) h (front_all p xs ys)
  where
    by : (b : Bool) → (b && list_all p (xs ++ ys)) ≡ true → (list_all p (xs ++ ys) ≡ true → list_all p xs ≡ true) → (b && list_all p xs) ≡ true
    by true rest more = more rest
    by false rest more = absurd (true≢false (sym rest))

-- all prev events of an event that is ready are stored
pub prev_stored : (events : List Stored) (event : Event) → is_ready events event ≡ true → list_all (is_stored events) (prev_events_of event) ≡ true
prev_stored events event ready = front_all (is_stored events) (prev_events_of event) (auth_events_of event) ready

-- ---- what is found is stored

or_right : (a : Bool) {b : Bool} → b ≡ true → (a || b) ≡ true
or_right true h = refl
or_right false h = h

pub found_stored : (events : List Stored) (id : List ℕ) (stored : Stored) → stored_at events id ≡ Some stored → is_stored events (id_of stored) ≡ true
found_stored [] id stored h = absurd (cc)
found_stored (x ∷ events) id stored h = by (has_id id x) h (found_stored events id stored)
  where
    by : (b : Bool) → cond b (Some x) (stored_at events id) ≡ Some stored → (stored_at events id ≡ Some stored → is_stored events (id_of stored) ≡ true) → (has_id (id_of stored) x || is_stored events (id_of stored)) ≡ true
    by true t more = let same : x ≡ stored = cc in ap (λ (y : Stored). has_id (id_of stored) y || is_stored events (id_of stored)) same ∙ ap (λ b. b || is_stored events (id_of stored)) (itself (id_of stored))
    by false t more = or_right (has_id (id_of stored) x) (more t)

pub in_middle : (events front : List Stored) (x : Stored) (back : List Stored) → events ≡ front ++ x ∷ back → is_stored events (id_of x) ≡ true
in_middle events front x back e = ap (λ (es : List Stored). is_stored es (id_of x)) e ∙ by front
  where
    by : (front : List Stored) → is_stored (front ++ x ∷ back) (id_of x) ≡ true
    by [] = ap (λ b. b || is_stored back (id_of x)) (itself (id_of x))
    by (y ∷ front) = or_right (has_id (id_of x) y) (by front)

-- an event of that id stands somewhere
pub standing : (events : List Stored) (id : List ℕ) → is_stored events id ≡ true
    → (stored : Stored) × ((before : List Stored) × ((after : List Stored) × ((stored_at events id ≡ Some stored) × (events ≡ before ++ stored ∷ after))))
standing [] id h = absurd (true≢false (sym h))
standing (x ∷ events) id h = by (has_id id x) h (standing events id)
  where
    by : (b : Bool) → (b || is_stored events id) ≡ true → (is_stored events id ≡ true → (stored : Stored) × ((before : List Stored) × ((after : List Stored) × ((stored_at events id ≡ Some stored) × (events ≡ before ++ stored ∷ after)))))
        → (stored : Stored) × ((before : List Stored) × ((after : List Stored) × ((cond b (Some x) (stored_at events id) ≡ Some stored) × (x ∷ events ≡ before ++ stored ∷ after))))
    by true t more = (x, ([], (events, (refl, refl))))
    by false t more = let rest = more t in (rest.0, (x ∷ rest.1.0, (rest.1.1.0, (rest.1.1.1.0, ap (λ ys. x ∷ ys) rest.1.1.1.1))))

-- ---- states after events name stored events

laid-event : (events : List Stored) (state : StateMap) (stored : Stored) → NamesStored events state → is_stored events (id_of stored) ≡ true → NamesStored events (with_stored state stored)
unfolding with_stored
laid-event events state stored named is = by (state_key_in stored)
  where
    by : (o : Option (List ℕ)) → NamesStored events (with_id_at state (kind_in stored) o (id_of stored))
    by None = named
    by (Some key) = laid events state (kind_in stored) key (id_of stored) named is

empty-named : (events : List Stored) → NamesStored events finite.empty
empty-named events kind key id h = let none = finite.get-empty {X = List ℕ} key_cmp (kind, key) in absurd (cc)

module _ (events : List Stored) (graph : IsGraph events) where
  with-named : (before : StateMap) (stored : Stored) → NamesStored events before → is_stored events (id_of stored) ≡ true → NamesStored events (state_with before stored)
  with-named before stored named is = by (is_rejected stored)
    where
      by : (b : Bool) → NamesStored events (if b then before else with_stored before stored)
      by true = named
      by false = laid-event events before stored named is

  within-named : (steps : ℕ) (id : List ℕ) → NamesStored events (after_within events steps id)
  within-named zero id = empty-named events
  within-named (suc steps) id =
      by (stored_at events id) refl (λ event. names_stored events _ (auth_graph events graph) (all_mapped (NamesStored events) (after_within events steps) (within-named steps) (prev_events_of event)))
    where
      before : Event → StateMap
      before event = resolved_of events (map (after_within events steps) (prev_events_of event))

      by : (o : Option Stored) → stored_at events id ≡ o → ((event : Event) → NamesStored events (before event)) → NamesStored events (state_with_found before o)
      by None e named = empty-named events
      by (Some stored) e named = with-named (before stored.event.event) stored (named stored.event.event) (found_stored events id stored e)

  -- the number of steps does not matter, where there are enough
  enough_steps : (n m : ℕ) (front rest : List Stored) (id : List ℕ) → events ≡ front ++ rest → is_stored front id ≡ true → length front ≤ n → length front ≤ m
      → after_within events n id ≡ after_within events m id
  enough_steps n m [] rest id e is a b = absurd (true≢false (sym is))
  enough_steps zero m (x ∷ front) rest id e is a b = absurd (omega (arith, a))
  enough_steps (suc n) zero (x ∷ front) rest id e is a b = absurd (omega (arith, b))
  enough_steps (suc n) (suc m) (x ∷ front) rest id e is a b =
      let there = standing (x ∷ front) id is in
      let stored = there.0 in
      let before = there.1.0 in
      let found : stored_at events id ≡ Some stored = ap (λ (es : List Stored). stored_at es id) e ∙ stored_at-++ (x ∷ front) rest id stored there.1.1.1.0 in
      let whole : events ≡ before ++ stored ∷ (there.1.1.0 ++ rest) = e ∙ ap (λ (es : List Stored). es ++ rest) there.1.1.1.1 ∙ append_assoc before (stored ∷ there.1.1.0) rest in
      let next = graph.each before stored (there.1.1.0 ++ rest) whole in
      let long : length (x ∷ front) ≡ length before + suc (length there.1.1.0) = ap length there.1.1.1.1 ∙ length-append before (stored ∷ there.1.1.0) in
      let states = map_alike (after_within events n) (after_within events m) (is_stored before)
      (λ other t. enough_steps n m before (stored ∷ (there.1.1.0 ++ rest)) other whole t (omega (arith, long, a)) (omega (arith, long, b)))
      (prev_events_of stored.event.event) (prev_stored before stored.event.event next.ready) in
      ap (state_with_found (before_by n)) found
      ∙ ap (λ ss. state_with (resolved_of events ss) stored) states
      ∙ sym (ap (state_with_found (before_by m)) found)
    where
      before_by : ℕ → Event → StateMap
      before_by steps event = resolved_of events (map (after_within events steps) (prev_events_of event))

-- ---- more events change no state

module _ (events more : List Stored) (graph : IsGraph (events ++ more)) where
  abbrev all : List Stored
  all = events ++ more

  first : IsGraph events
  first = graph_front events more graph

  resolved-more : (steps : ℕ) → ((id : List ℕ) → is_stored events id ≡ true → after_within all steps id ≡ after_within events steps id)
      → (ids : List (List ℕ)) → list_all (is_stored events) ids ≡ true → resolved_of all (map (after_within all steps) ids) ≡ resolved_of events (map (after_within events steps) ids)
  resolved-more steps same ids stored =
      ap (resolved_of all) (map_alike (after_within all steps) (after_within events steps) (is_stored events) same ids stored)
      ∙ later_events events more (map (after_within events steps) ids) (auth_graph (events ++ more) graph) (all_mapped (NamesStored events) (after_within events steps) (within-named events first steps) ids)

  within-more : (steps : ℕ) (id : List ℕ) → is_stored events id ≡ true → after_within all steps id ≡ after_within events steps id
  within-more zero id is = refl
  within-more (suc steps) id is =
      let there = standing events id is in
      let stored = there.0 in
      let found : stored_at events id ≡ Some stored = there.1.1.1.0 in
      ap (state_with_found (before_in all)) (stored_at-++ events more id stored found)
      ∙ ap (λ state. state_with state stored) (resolved-more steps (within-more steps) (prev_events_of stored.event.event) (prev_stored events stored.event.event (stored_is_ready events id stored first found)))
      ∙ sym (ap (state_with_found (before_in events)) found)
    where
      before_in : List Stored → Event → StateMap
      before_in es event = resolved_of es (map (after_within es steps) (prev_events_of event))

  fewer : length events ≤ length all
  fewer = let long = length-append events more in omega (arith, long)

  pub after-more : (id : List ℕ) → is_stored events id ≡ true → state_after all id ≡ state_after events id
  unfolding state_after
  after-more id is = enough_steps all graph (length all) (length events) events more id refl is fewer (omega arith) ∙ within-more (length events) id is

  pub resolved_after-more : (ids : List (List ℕ)) → list_all (is_stored events) ids ≡ true → resolved_after all ids ≡ resolved_after events ids
  unfolding resolved_after state_after
  resolved_after-more ids stored =
      ap (resolved_of all) (map_alike (state_after all) (state_after events) (is_stored events) after-more ids stored)
      ∙ later_events events more (map (state_after events) ids) (auth_graph (events ++ more) graph) (all_mapped (NamesStored events) (state_after events) (within-named events first (length events)) ids)

pub resolved-named : (events : List Stored) (ids : List (List ℕ)) → IsGraph events → NamesStored events (resolved_after events ids)
unfolding resolved_after state_after
resolved-named events ids graph =
    names_stored events _ (auth_graph events graph) (all_mapped (NamesStored events) (state_after events) (within-named events graph (length events)) ids)

-- ---- the state after one event more

-- it is made of the state before it
pub after-last : (events : List Stored) (last : Stored) → IsGraph (events ++ last ∷ []) → state_after (events ++ last ∷ []) (id_of last) ≡ state_with (state_before events last.event.event) last
unfolding resolved_after state_after
after-last events last graph =
    let all = events ++ last ∷ [] in
    let n = length events in
    let next = graph_last events last graph in
    let prev = prev_events_of last.event.event in
    let append = length-append events (last ∷ []) in
    let long : length all ≡ suc n = omega (arith, append) in
    ap (λ steps. after_within all steps (id_of last)) long
    ∙ ap (state_with_found (λ event. resolved_of all (map (after_within all n) (prev_events_of event)))) (stored_at-last events last next.new)
    ∙ ap (λ state. state_with state last) (resolved-more events (last ∷ []) graph n (within-more events (last ∷ []) graph n) prev (prev_stored events last.event.event next.ready))

pub room_lawful : AreLawful room_rules
room_lawful = record {
  stays = λ events more event graph ready. resolved_after-more events more graph (prev_events_of event) (prev_stored events event ready);
  before = λ events event graph ready. resolved-named events (prev_events_of event) graph;
  current = λ events graph. resolved-named events (extremities_of events) graph;
  bears = λ events draft moment. parts_bear (links_of events draft) draft moment;
}

-- ---- kept states

kept_more : (events more : List Stored) → IsGraph (events ++ more) → (front back : List Stored) → events ≡ front ++ back
    → map (λ stored. state_after (events ++ more) (id_of stored)) back ≡ map (λ stored. state_after events (id_of stored)) back
kept_more events more graph front [] e = refl
kept_more events more graph front (x ∷ back) e =
    (λ i. after-more events more graph (id_of x) (in_middle events front x back e) i ∷ kept_more events more graph (front ++ x ∷ []) back (e ∙ sym (append_assoc front (x ∷ []) back)) i)

-- with the state after it they are those with one event more
pub kept-push : (events : List Stored) (last : Stored) (kept : List StateMap) (after : StateMap) → IsGraph (events ++ last ∷ []) → kept ≡ states_after events
    → after ≡ state_with (state_before events last.event.event) last → kept ++ after ∷ [] ≡ states_after (events ++ last ∷ [])
kept-push events last kept after graph e h =
    (λ i. e i ++ h i ∷ [])
    ∙ (λ i. sym (kept_more events (last ∷ []) graph [] events refl) i ++ sym (after-last events last graph) i ∷ [])
    ∙ sym (map-append (λ stored. state_after (events ++ last ∷ []) (id_of stored)) events (last ∷ []))
