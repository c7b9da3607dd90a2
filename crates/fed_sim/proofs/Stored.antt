-- The events that a server has offered stay in its rooms, and so do the servers that they go to.
use Rattle.std.proofs.Common.{◌≡◌, ◌≢◌, ℕ, zero, suc, Bool, true, false, ◌||◌, List, [], ◌∷◌, ◌++◌, set, replicate, Option, Some, None, Ok, Err, refl, sym, ap, ◌∙◌, subst, ◌⊎◌, inl, inr, if◌then◌else◌}
use Rattle.std.specs.List.{slice_get}
use Rattle.std.proofs.lemmas.Bool.{cases_eq}
use Rattle.std.proofs.lemmas.Option.{none-some, same_Some, slice_get_within}
use Rattle.std.proofs.lemmas.Slice.Eq.{bytes_eq-Decides}
use Rattle.fed_event.specs.Event.{Event, event_in}
use Rattle.fed_event.specs.declared.fault.PduFault.{PduFault}
use Rattle.fed_event.specs.Checked.{CheckedEvent, checked_of}
use Rattle.fed_event.specs.Fields.{room_id_of}
use Rattle.fed_event.specs.Tests.{first_fault_of}
use Rattle.fed_event.proofs.CheckedFields.{room_kept}
use Rattle.fed_room.specs.Links.{links_of}
use Rattle.fed_room.specs.Parts.{EventLinks, fields_of, with_state_key}
use Rattle.fed_room_contract.specs.declared.graph.Stored.{Stored}
use Rattle.fed_room_contract.specs.declared.input.Input.{Input}
use Rattle.fed_room_contract.specs.declared.input.Input.TheVariants.{Receive, Advance, Commit}
use Rattle.fed_room_contract.specs.declared.refusal.Refusal.TheVariants.{NotOwnUser}
use Rattle.fed_room_contract.specs.declared.verdict.Verdict.{Verdict}
use Rattle.fed_room_contract.specs.declared.verdict.Verdict.TheVariants.{Accepted, Rejected, SoftFailed}
use Rattle.fed_room_contract.specs.Draft.{DraftFields}
use Rattle.fed_room_contract.specs.Graph.{IsGraph, id_of, has_id, is_stored, is_ready}
use Rattle.fed_room_contract.specs.Prepared.{PreparedEvent, Signer, is_own_user, sealed_by, if_accepted, if_event, if_sealed, prepared_of}
use Rattle.fed_room_contract.specs.Room.{RoomState, event_id, committed, with_stored}
use Rattle.fed_room_contract.specs.Runs.{after_input, room_after, AllMayBeGiven, IsRoom}
use Rattle.fed_room_contract.proofs.Graphs.{is_stored-++, ready_stays}
use Rattle.fed_room_contract.proofs.Rooms.{room_grows, room_after-++}
use Rattle.fed_room_contract.proofs.WellFormed.{inputs_keep}
use Rattle.fed_room.specs.Room.{room_rules}
use Rattle.fed_room.specs.RoomLawful.{room_lawful}
use Rattle.fed_dest.specs.Joined.{AreDestinations}
use Rattle.fed_dest.proofs.Stays.{destinations_stay}
use Rattle.fed_sim.proofs.WayQueues.{set_here, set_there}

-- ---- rooms that are given something

pub data Grown : Option RoomState → Option RoomState → Type 0 where
  no_room : Grown None None
  given : (before : RoomState) (inputs : List Input) → AllMayBeGiven room_rules before inputs → Grown (Some before) (Some (room_after room_rules before inputs))

pub grown_same : (o : Option RoomState) → Grown o o
grown_same None = no_room
grown_same (Some room) = given room [] tt

all_given : (room : RoomState) (inputs more : List Input) → AllMayBeGiven room_rules room inputs → AllMayBeGiven room_rules (room_after room_rules room inputs) more
    → AllMayBeGiven room_rules room (inputs ++ more)
all_given room [] more may later = later
all_given room (input ∷ inputs) more may later = (may.0, all_given (after_input room_rules room input) inputs more may.1 later)

pub grown_then : (a b c : Option RoomState) → Grown a b → Grown b c → Grown a c
grown_then _ _ c no_room second = second
grown_then _ _ c (given before inputs may) second = by (Some (room_after room_rules before inputs)) c refl second
  where
    by : (b c : Option RoomState) → Some (room_after room_rules before inputs) ≡ b → Grown b c → Grown (Some before) c
    by _ _ e no_room = absurd (none-some _ (sym e))
    by _ _ e (given between more later) =
        let same : room_after room_rules before inputs ≡ between = same_Some _ _ e in
        subst (λ (r : RoomState). Grown (Some before) (Some r)) (room_after-++ room_rules before inputs more ∙ ap (λ r. room_after room_rules r more) same)
        (given before (inputs ++ more) (all_given before inputs more may (subst (λ r. AllMayBeGiven room_rules r more) (sym same) later)))

-- one of several rooms is given something
pub grown_set : (rooms : List RoomState) (place : ℕ) (before after : RoomState) → slice_get rooms place ≡ Some before → Grown (Some before) (Some after)
    → (r : ℕ) → Grown (slice_get rooms r) (slice_get (set rooms place after) r)
grown_set rooms place before after here grows r = by (cases_eq r place)
  where
    by : (r ≡ place) ⊎ (r ≢ place) → Grown (slice_get rooms r) (slice_get (set rooms place after) r)
    by (inl same) =
        subst (λ (k : ℕ). Grown (slice_get rooms k) (slice_get (set rooms place after) k)) (sym same)
        (subst (λ (o : Option RoomState). Grown o (slice_get (set rooms place after) place)) (sym here)
        (subst (λ (o : Option RoomState). Grown (Some before) o) (sym (set_here rooms place after (slice_get_within rooms place before here))) grows))
    by (inr other) = subst (λ (o : Option RoomState). Grown (slice_get rooms r) o) (sym (set_there rooms place r after other)) (grown_same (slice_get rooms r))

-- ---- an event in a room

-- it is stored, all that it names is, and these are the places of the servers, of these names, that are joined in the state before it
pub record IsInside (names : List (List ℕ)) (own : ℕ) (room : RoomState) (event : CheckedEvent) (dests : List ℕ) : Type 0 where
  pub stored : is_stored room.stored (event_id event) ≡ true
  pub ready : is_ready room.stored event.event ≡ true
  pub destinations : AreDestinations room.stored (room_rules.before room.stored event.event) names own dests

module _ (names : List (List ℕ)) (own : ℕ) (room : RoomState) (inputs : List Input) (well : IsRoom room_rules room) (may : AllMayBeGiven room_rules room inputs) (event : CheckedEvent) (dests : List ℕ) where
  abbrev later : RoomState
  later = room_after room_rules room inputs

  ready_later : is_ready room.stored event.event ≡ true → is_ready later.stored event.event ≡ true
  ready_later ready =
      let grows = room_grows room_rules room inputs in
      subst (λ xs. is_ready xs event.event ≡ true) (sym grows.1) (ready_stays room.stored grows.0 event.event ready)

  stored_later : is_stored room.stored (event_id event) ≡ true → is_stored later.stored (event_id event) ≡ true
  stored_later stored =
      let grows = room_grows room_rules room inputs in
      subst (λ xs. is_stored xs (event_id event) ≡ true) (sym grows.1) (is_stored-++ room.stored grows.0 (event_id event) stored)

  goes_later : is_ready room.stored event.event ≡ true → AreDestinations room.stored (room_rules.before room.stored event.event) names own dests
      → AreDestinations later.stored (room_rules.before later.stored event.event) names own dests
  goes_later ready goes =
      let grows = room_grows room_rules room inputs in
      let graph : IsGraph (room.stored ++ grows.0) = subst IsGraph grows.1 (inputs_keep room_rules room inputs well may).graph in
      let before : room_rules.before (room.stored ++ grows.0) event.event ≡ room_rules.before room.stored event.event = room_lawful.stays room.stored grows.0 event.event graph ready in
      let named = room_lawful.before room.stored event.event well.graph ready in
      subst (λ xs. AreDestinations xs (room_rules.before xs event.event) names own dests) (sym grows.1)
      (subst (λ state. AreDestinations (room.stored ++ grows.0) state names own dests) (sym before)
      (record { rising = goes.rising; each = λ d. goes.each d ∙ sym (destinations_stay room.stored grows.0 (room_rules.before room.stored event.event) named names own d) }))

  pub inside_later : IsInside names own room event dests → IsInside names own (room_after room_rules room inputs) event dests
  inside_later h = record { stored = stored_later h.stored; ready = ready_later h.ready; destinations = goes_later h.ready h.destinations }

-- ---- the event that is made of a draft

-- it is accepted, and the state before it is that of the room
pub made_is : (signer : Signer) (stored : List Stored) (draft : DraftFields) (p : PreparedEvent) → prepared_of room_rules signer stored draft ≡ Ok p
    → (room_rules.decide stored p.event ≡ Accepted) × (p.before ≡ room_rules.before stored p.event.event)
made_is signer stored draft p made = of_own (is_own_user signer.name draft.sender) made
  where
    of_verdict : (event : CheckedEvent) (verdict : Verdict) → room_rules.decide stored event ≡ verdict → if_accepted room_rules signer stored event verdict ≡ Ok p → (room_rules.decide stored p.event ≡ Accepted) × (p.before ≡ room_rules.before stored p.event.event)
    of_verdict event Accepted is e =
        let same : record { event = event; before = room_rules.before stored event.event } ≡ p = cc in
        subst (λ (q : PreparedEvent). (room_rules.decide stored q.event ≡ Accepted) × (q.before ≡ room_rules.before stored q.event.event)) same (is, refl)
    of_verdict event (Rejected rule) is e = absurd (cc)
    of_verdict event (SoftFailed rule) is e = absurd (cc)

    of_fault : (value : Event) (fault : Option PduFault) → if_event room_rules signer stored value fault ≡ Ok p → (room_rules.decide stored p.event ≡ Accepted) × (p.before ≡ room_rules.before stored p.event.event)
    of_fault value (Some fault) e = absurd (cc)
    of_fault value None e = of_verdict (checked_of signer.checks value) (room_rules.decide stored (checked_of signer.checks value)) refl e

    of_own : (b : Bool) → (if b then if_sealed room_rules signer stored (sealed_by signer (room_rules.parts stored draft)) else Err NotOwnUser) ≡ Ok p
        → (room_rules.decide stored p.event ≡ Accepted) × (p.before ≡ room_rules.before stored p.event.event)
    of_own true e = of_fault (sealed_by signer (room_rules.parts stored draft)) (first_fault_of (sealed_by signer (room_rules.parts stored draft)).value) e
    of_own false e = absurd (cc)

-- it is one of the room that the draft names
room_sealed : (signer : Signer) (links : EventLinks) (draft : DraftFields) (key : Option (List ℕ)) → room_id_of (sealed_by signer (event_in links.version (with_state_key key (fields_of links draft)))) ≡ draft.room
room_sealed signer links draft None = refl
room_sealed signer links draft (Some key) = refl

pub made_for : (signer : Signer) (stored : List Stored) (draft : DraftFields) (p : PreparedEvent) → prepared_of room_rules signer stored draft ≡ Ok p → room_id_of p.event.event ≡ draft.room
made_for signer stored draft p made = of_own (is_own_user signer.name draft.sender) made
  where
    of_verdict : (event : CheckedEvent) → room_id_of event.event ≡ draft.room → (verdict : Verdict) → if_accepted room_rules signer stored event verdict ≡ Ok p → room_id_of p.event.event ≡ draft.room
    of_verdict event is Accepted e =
        let same : record { event = event; before = room_rules.before stored event.event } ≡ p = cc in
        subst (λ (q : PreparedEvent). room_id_of q.event.event ≡ draft.room) same is
    of_verdict event is (Rejected rule) e = absurd (cc)
    of_verdict event is (SoftFailed rule) e = absurd (cc)

    of_fault : (value : Event) → room_id_of value ≡ draft.room → (fault : Option PduFault) → if_event room_rules signer stored value fault ≡ Ok p → room_id_of p.event.event ≡ draft.room
    of_fault value is (Some fault) e = absurd (cc)
    of_fault value is None e = of_verdict (checked_of signer.checks value) (room_kept signer.checks value ∙ is) (room_rules.decide stored (checked_of signer.checks value)) e

    of_own : (b : Bool) → (if b then if_sealed room_rules signer stored (sealed_by signer (room_rules.parts stored draft)) else Err NotOwnUser) ≡ Ok p → room_id_of p.event.event ≡ draft.room
    of_own true e =
        of_fault (sealed_by signer (room_rules.parts stored draft)) (room_sealed signer (links_of stored draft) draft draft.state_key)
        (first_fault_of (sealed_by signer (room_rules.parts stored draft)).value) e
    of_own false e = absurd (cc)

last_stored : (xs : List Stored) (x : Stored) → is_stored (xs ++ x ∷ []) (id_of x) ≡ true
last_stored [] x = ap (λ b. b || false) ((bytes_eq-Decides (id_of x) (id_of x)).1 refl)
last_stored (y ∷ xs) x = by (has_id (id_of x) y) (last_stored xs x)
  where
    by : (b : Bool) → is_stored (xs ++ x ∷ []) (id_of x) ≡ true → (b || is_stored (xs ++ x ∷ []) (id_of x)) ≡ true
    by true rest = refl
    by false rest = rest

pub committed_stored : (room : RoomState) (event : CheckedEvent) → is_stored (committed room event).stored (event_id event) ≡ true
committed_stored room event = by (is_stored room.stored (event_id event)) refl
  where
    by : (b : Bool) → is_stored room.stored (event_id event) ≡ b → is_stored (if b then room else with_stored room event Accepted).stored (event_id event) ≡ true
    by true is = is
    by false is = last_stored room.stored (record { event = event; verdict = Accepted })

-- ---- what a room is given

pub received_grows : (room after : RoomState) (event : CheckedEvent) (times : ℕ) → after ≡ room_after room_rules room (Receive event ∷ replicate times Advance) → Grown (Some room) (Some after)
received_grows room after event times is = subst (λ (r : RoomState). Grown (Some room) (Some r)) (sym is) (given room (Receive event ∷ replicate times Advance) (tt, advances_may (after_input room_rules room (Receive event)) times))
  where
    advances_may : (r : RoomState) (n : ℕ) → AllMayBeGiven room_rules r (replicate n Advance)
    advances_may r zero = tt
    advances_may r (suc n) = (tt, advances_may (after_input room_rules r Advance) n)

pub committed_grows : (room : RoomState) (event : CheckedEvent) → is_ready room.stored event.event ≡ true → room_rules.decide room.stored event ≡ Accepted → Grown (Some room) (Some (committed room event))
committed_grows room event ready accepted = given room (Commit event ∷ []) ((λ new. record { ready = ready; accepted = accepted }), tt)

pub committed_inside : (names : List (List ℕ)) (own : ℕ) (room : RoomState) (event : CheckedEvent) (dests : List ℕ) → IsRoom room_rules room → is_ready room.stored event.event ≡ true
    → room_rules.decide room.stored event ≡ Accepted → AreDestinations room.stored (room_rules.before room.stored event.event) names own dests → IsInside names own (committed room event) event dests
committed_inside names own room event dests well ready accepted goes =
    let may : AllMayBeGiven room_rules room (Commit event ∷ []) = ((λ new. record { ready = ready; accepted = accepted }), tt) in
    record {
      stored = committed_stored room event;
      ready = ready_later names own room (Commit event ∷ []) well may event dests ready;
      destinations = goes_later names own room (Commit event ∷ []) well may event dests ready goes;
    }
