-- Wires that take in credits, and the room that they have.
use Rattle.std.proofs.Common.{arith, ◌≡◌, ◌≢◌, ◌⊎◌, inl, inr, ℕ, zero, suc, ◌<◌, ◌≤◌, Bool, true, false, cond, List, [], ◌∷◌, ◌++◌, filter, map, length, set, get_or, take, Option, Some, None, refl, sym, ap, ◌∙◌, subst, ⊎_elim}
use Rattle.std.specs.List.{slice_get}
use Rattle.std.specs.Option.{MatchOption}
use Rattle.std.proofs.lemmas.Bool.{eq-eqb, eqb-true}
use Rattle.std.proofs.lemmas.Option.{none-some, same_Some, slice_get_within}
use Rattle.fed_event.specs.Checked.{CheckedEvent}
use Rattle.fed_inbox.specs.History.{Point}
use Rattle.fed_wires.specs.NoRoom.{Lack}
use Rattle.fed_wires.specs.WireId.{WireId}
use Rattle.fed_hub_serving.specs.declared.bound.Bound.{Bound}
use Rattle.fed_hub_serving.specs.declared.end_place.EndPlace.{EndPlace}
use Rattle.fed_hub_serving.specs.declared.full_wire.FullRoom.{FullRoom}
use Rattle.fed_hub_serving.specs.declared.judged_request.JudgedRequest.{JudgedRequest}
use Rattle.fed_hub_serving.specs.declared.room_wire.RoomWire.{RoomWire}
use Rattle.fed_hub_serving.specs.declared.room_wire.EndedWire.{EndedWire}
use Rattle.fed_hub_serving.specs.Spreading as spreads
use Rattle.fed_hub_serving.specs.Spreading.{Goes, Passes}
use Rattle.fed_hub_serving.specs.Wires.{WiresState, HasSent, AreSent, ended_of}
use Rattle.fed_hub_serving.specs.WireRoom.{with_credits, HaveTakenIn, none, one_more, is_at, is_bound_for, count_for, HaveRoomTo, HaveRoom, WasFull, IsFullOf}
use Rattle.fed_wires.proofs.Places.{set_here, set_all}

-- ---- wires that take in credits

pub taken_none : (wires : List RoomWire) → HaveTakenIn wires wires
taken_none [] = none
taken_none (wire ∷ wires) = one_more wire wire.end.room wires wires (omega arith) (taken_none wires)

pub taken_at : (wires : List RoomWire) (k : ℕ) (wire new : RoomWire) → slice_get wires k ≡ Some wire → new ≡ with_credits wire new.end.room → wire.end.room ≤ new.end.room → HaveTakenIn wires (set wires k new)
taken_at [] k wire new here same more = absurd (none-some wire here)
taken_at (first ∷ wires) zero wire new here same more =
    let is = same_Some first wire here in
    subst (λ (n : RoomWire). HaveTakenIn (first ∷ wires) (n ∷ wires)) (ap (λ (x : RoomWire). with_credits x new.end.room) is ∙ sym same)
    (one_more first new.end.room wires wires (subst (λ (x : RoomWire). x.end.room ≤ new.end.room) (sym is) more) (taken_none wires))
taken_at (first ∷ wires) (suc k) wire new here same more = one_more first first.end.room wires (set wires k new) (omega arith) (taken_at wires k wire new here same more)

pub taken_more : (first second third : List RoomWire) → HaveTakenIn first second → HaveTakenIn second third → HaveTakenIn first third
taken_more _ _ _ none none = none
taken_more _ _ _ (one_more wire room old now low rest) (one_more _ more _ new high others) = one_more wire more old new (omega (arith, low, high)) (taken_more old now new rest others)

pub taken_behind : (front old new : List RoomWire) → HaveTakenIn old new → HaveTakenIn (front ++ old) (front ++ new)
taken_behind [] old new taken = taken
taken_behind (wire ∷ front) old new taken = one_more wire wire.end.room (front ++ old) (front ++ new) (omega arith) (taken_behind front old new taken)

taken_count : (old new : List RoomWire) → HaveTakenIn old new → length new ≡ length old
taken_count _ _ none = refl
taken_count _ _ (one_more wire room old new low rest) = ap suc (taken_count old new rest)

-- the wire that is at a place was there
pub taken_here : (old new : List RoomWire) (k : ℕ) (now : RoomWire) → HaveTakenIn old new → slice_get new k ≡ Some now
    → (was : RoomWire) × ((slice_get old k ≡ Some was) × ((now ≡ with_credits was now.end.room) × (was.end.room ≤ now.end.room)))
taken_here _ _ k now none here = absurd (none-some now here)
taken_here _ _ zero now (one_more wire room old new low rest) here =
    let is = same_Some (with_credits wire room) now here in
    let same : room ≡ now.end.room = ap (λ (x : RoomWire). x.end.room) is in
    (wire, (refl, (sym is ∙ ap (with_credits wire) same, subst (λ n. wire.end.room ≤ n) same low)))
taken_here _ _ (suc k) now (one_more wire room old new low rest) here = taken_here old new k now rest here

pub taken_ended : (old new : List RoomWire) → HaveTakenIn old new → map (λ (w : RoomWire). w.ended) new ≡ map (λ (w : RoomWire). w.ended) old
taken_ended _ _ none = refl
taken_ended _ _ (one_more wire room old new low rest) = ap (λ (es : List (Option EndPlace)). wire.ended ∷ es) (taken_ended old new rest)

-- what went over the wires is as it was
pub taken_sent : (names : List (WireId CheckedEvent)) (known : List (List ℕ)) (points : List Point) (old new : WiresState) → AreSent names known points old → HaveTakenIn old.wires new.wires → new.is_shut ≡ old.is_shut → AreSent names known points new
taken_sent names known points old new are taken shut = record {
  count = taken_count old.wires new.wires taken ∙ are.count;
  each = λ k wire here.
      let t = taken_here old.wires new.wires k wire taken here in
      let was = are.each k t.0 t.1.0 in
      subst (λ (y : Bool × RoomWire). HasSent names known y.0 points k y.1) (λ i. (sym shut i, sym t.1.1.0 i))
      (record { name = was.name; sent = was.sent; runs = was.runs; ended = was.ended });
}

-- ---- how many events are for a room

is_at_some : (k : ℕ) (o : Option ℕ) → is_at k o ≡ true → o ≡ Some k
is_at_some k None is = absurd (cc)
is_at_some k (Some place) is = ap Some (eqb-true place k is)

at_some : (k : ℕ) (o : Option ℕ) → o ≡ Some k → is_at k o ≡ true
at_some k o is = ap (is_at k) is ∙ eq-eqb k k refl

module _ (k : ℕ) (b : Bound) (bound : List Bound) where
  count_more : count_for k (b ∷ bound) ≡ cond (is_bound_for k b) (suc (count_for k bound)) (count_for k bound)
  count_more = by (is_bound_for k b)
    where
      by : (yes : Bool) → length (cond yes (b ∷ filter (is_bound_for k) bound) (filter (is_bound_for k) bound)) ≡ cond yes (suc (count_for k bound)) (count_for k bound)
      by true = refl
      by false = refl

  pub count_with : b.room ≡ Some k → count_for k (b ∷ bound) ≡ suc (count_for k bound)
  count_with is = count_more ∙ ap (λ (yes : Bool). cond yes (suc (count_for k bound)) (count_for k bound)) (at_some k b.room is)

  count_rises : count_for k bound ≤ count_for k (b ∷ bound)
  count_rises = subst (λ n. count_for k bound ≤ n) (sym count_more) (by (is_bound_for k b))
    where
      by : (yes : Bool) → count_for k bound ≤ cond yes (suc (count_for k bound)) (count_for k bound)
      by true = omega arith
      by false = omega arith

  count_of_first : count_for k (b ∷ []) ≤ count_for k (b ∷ bound)
  count_of_first = by (is_bound_for k b)
    where
      by : (yes : Bool) → length (cond yes (b ∷ []) []) ≤ length (cond yes (b ∷ filter (is_bound_for k) bound) (filter (is_bound_for k) bound))
      by true = omega arith
      by false = omega arith

-- one event more among the first
pub first_for : (bound : List Bound) (i k : ℕ) (z : Bound) → i < length bound → 0 < count_for k (take (suc i) bound) → (0 < count_for k (take i bound)) ⊎ ((get_or bound i z).room ≡ Some k)
first_for [] i k z within some = absurd (omega (arith, within))
first_for (b ∷ bound) zero k z within some = by (is_bound_for k b) refl some
  where
    by : (yes : Bool) → is_bound_for k b ≡ yes → 0 < length (cond yes (b ∷ []) []) → (0 < count_for k (take 0 (b ∷ bound))) ⊎ (b.room ≡ Some k)
    by true is _ = inr (is_at_some k b.room is)
    by false is nothing = absurd (omega (arith, nothing))
first_for (b ∷ bound) (suc i) k z within some = by (is_bound_for k b) (first_for bound i k z (omega (arith, within))) some
  where
    by : (yes : Bool) → (0 < count_for k (take (suc i) bound) → (0 < count_for k (take i bound)) ⊎ ((get_or bound i z).room ≡ Some k))
        → 0 < length (cond yes (b ∷ filter (is_bound_for k) (take (suc i) bound)) (filter (is_bound_for k) (take (suc i) bound)))
        → (0 < length (cond yes (b ∷ filter (is_bound_for k) (take i bound)) (filter (is_bound_for k) (take i bound)))) ⊎ ((get_or bound i z).room ≡ Some k)
    by true later _ = inl (omega arith)
    by false later rest = later rest

-- ---- room

-- none is lost where wires take in credits
pub room_stays : (To : ℕ → Type 0) (bound : List Bound) (old new : List RoomWire) → HaveRoomTo To bound old → HaveTakenIn old new → HaveRoomTo To bound new
room_stays To bound old new has taken k wire to here going =
    let t = taken_here old new k wire taken here in
    let had = has k t.0 to t.1.0 (sym (ap (λ (w : RoomWire). w.ended) t.1.1.0) ∙ going) in
    let more = t.1.1.1 in omega (arith, had, more)

pub room_both : (To Also Both : ℕ → Type 0) (bound : List Bound) (wires : List RoomWire) → HaveRoomTo To bound wires → HaveRoomTo Also bound wires → ((k : ℕ) → Both k → To k ⊎ Also k) → HaveRoomTo Both bound wires
room_both To Also Both bound wires has other each k wire both here going = ⊎_elim (λ to. has k wire to here going) (λ also. other k wire also here going) (each k both)

-- there is no wire at a place beyond them
pub room_beyond : (bound : List Bound) (wires : List RoomWire) (at : Option ℕ) (room : ℕ) → at ≡ Some room → length wires ≤ room → HaveRoomTo (λ k. at ≡ Some k) bound wires
room_beyond bound wires at room is beyond k wire to here going =
    let same : room ≡ k = same_Some room k (sym is ∙ to) in
    let within = slice_get_within wires k wire here in absurd (omega (arith, same, within, beyond))

pub room_nowhere : (bound : List Bound) (wires : List RoomWire) (at : Option ℕ) → at ≡ None → HaveRoomTo (λ k. at ≡ Some k) bound wires
room_nowhere bound wires at is k wire to here going = absurd (none-some k (sym is ∙ to))

pub room_at : (bound : List Bound) (wires : List RoomWire) (at : Option ℕ) (room : ℕ) (new : RoomWire) → at ≡ Some room → (new.ended ≡ None → count_for room bound ≤ new.end.room) → HaveRoomTo (λ k. at ≡ Some k) bound (set wires room new)
room_at bound wires at room new is has k wire to here going =
    set_all (λ j (w : RoomWire). at ≡ Some j → w.ended ≡ None → count_for j bound ≤ w.end.room) wires room new (λ _ runs. has runs)
    (λ j w apart _ there _. absurd (apart (same_Some j room (sym there ∙ is)))) k wire here to going

-- a wire that was asked for more credits than it has
pub full_at : (bound : List Bound) (wires : List RoomWire) (k : ℕ) (wire new : RoomWire) (full : FullRoom) → k < length wires → new ≡ with_credits wire new.end.room → new.ended ≡ None → new.end.room < count_for k bound → full.room ≡ k
    → full.no_room ≡ record { wire = wire.end.wire; count = count_for k bound } → WasFull bound (set wires k new) full
full_at bound wires k wire new full within same runs few there shown = record {
  wire = new;
  here = ap (slice_get (set wires k new)) there ∙ set_here wires k new within;
  runs = runs;
  few = subst (λ j. new.end.room < count_for j bound) (sym there) few;
  shown = shown ∙ (λ i. record { wire = (sym same i).end.wire; count = count_for (sym there i) bound });
}

-- its wire is the one of that name
pub full_named : (names : List (WireId CheckedEvent)) (known : List (List ℕ)) (points : List Point) (w : WiresState) (judged : JudgedRequest) (bound : List Bound) (full : FullRoom) → AreSent names known points w
    → bound ≡ judged.bound.items → WasFull bound w.wires full → IsFullOf names judged (record { judged = judged; room = full.room; no_room = full.no_room })
full_named names known points w judged bound full are same was = record {
  same = refl;
  within = omega (arith, slice_get_within w.wires full.room was.wire was.here, are.count);
  wire = (are.each full.room was.wire was.here).name ∙ ap (λ (l : Lack CheckedEvent). Some l.wire) (sym was.shown);
  count = ap (λ (l : Lack CheckedEvent). l.count) was.shown ∙ ap (count_for full.room) same;
}

-- where no event is for a room it needs no room
pub room_for_all : (bound : List Bound) (wires : List RoomWire) → HaveRoomTo (λ k. 0 < count_for k bound) bound wires → HaveRoom bound wires
room_for_all bound wires has k wire _ here going = by (count_for k bound) (λ some. has k wire some here going)
  where
    by : (n : ℕ) → (0 < n → n ≤ wire.end.room) → n ≤ wire.end.room
    by zero _ = omega arith
    by (suc n) enough = enough (omega arith)

pub room_of_none : (wires : List RoomWire) → HaveRoom [] wires
room_of_none wires k wire _ here going = omega arith

pub room_of_first : (one : Bound) (later : List Bound) (wires : List RoomWire) → HaveRoom (one ∷ later) wires → HaveRoom (one ∷ []) wires
room_of_first one later wires has k wire _ here going =
    let enough = has k wire tt here going in
    let less = count_of_first k one later in omega (arith, enough, less)

room_of_rest : (one : Bound) (later : List Bound) (wires : List RoomWire) → HaveRoom (one ∷ later) wires → HaveRoom later wires
room_of_rest one later wires has k wire _ here going =
    let enough = has k wire tt here going in
    let less = count_rises k one later in omega (arith, enough, less)

-- what is left of it for the later events
pub room_left : (one : Bound) (later : List Bound) (place : EndPlace) (old new : WiresState) → HaveRoom (one ∷ later) old.wires → Passes one place old new → HaveRoom later new.wires
room_left one later place old _ has (spreads.shut shut) = room_of_rest one later old.wires has
room_left one later place old _ has (spreads.nowhere is) = room_of_rest one later old.wires has
room_left one later place old _ has (spreads.away k is beyond) = room_of_rest one later old.wires has
room_left one later place old _ has (spreads.goes k wire new runs is there goes) = λ j at _ here going.
    set_all (λ d (w : RoomWire). w.ended ≡ None → count_for d later ≤ w.end.room) old.wires k new (by new goes) (λ d w apart stood still. room_of_rest one later old.wires has d w tt stood still) j at here going
  where
    by : (new : RoomWire) → Goes one.event place wire new → new.ended ≡ None → count_for k later ≤ new.end.room
    by _ (spreads.ended at' ended) going = absurd (none-some at' (sym going ∙ ended))
    by _ (spreads.sent running) going =
        let enough = has k wire tt there running in
        let count = count_with k one later is in omega (arith, enough, count)
    by _ (spreads.back running) going = absurd (none-some place (sym going))

-- ---- those that have ended and those that run

not_ended : (ended : List EndedWire) (running : List RoomWire) (k : ℕ) (wire : RoomWire) → running ≡ [] → slice_get (map ended_of ended ++ running) k ≡ Some wire → wire.ended ≡ None → ⊥
not_ended [] running k wire nothing here going = none-some wire (ap (λ (ws : List RoomWire). slice_get ws k) (sym nothing) ∙ here)
not_ended (e ∷ ended) running zero wire nothing here going = none-some e.ended (sym going ∙ ap (λ (w : RoomWire). w.ended) (sym (same_Some (ended_of e) wire here)))
not_ended (e ∷ ended) running (suc k) wire nothing here going = not_ended ended running k wire nothing here going

module _ (bound : List Bound) (ended : List EndedWire) (running : List RoomWire) where
  pub room_of_all : (is_shut : Bool) → (is_shut ≡ true → running ≡ []) → (is_shut ≡ false → ended ≡ []) → HaveRoom bound running → HaveRoom bound (map ended_of ended ++ running)
  room_of_all true shut runs has = λ k wire _ here going. absurd (not_ended ended running k wire (shut refl) here going)
  room_of_all false shut runs has = subst (λ (es : List EndedWire). HaveRoom bound (map ended_of es ++ running)) (sym (runs refl)) has

  pub room_of_running : (is_shut : Bool) → (is_shut ≡ true → running ≡ []) → (is_shut ≡ false → ended ≡ []) → HaveRoom bound (map ended_of ended ++ running) → HaveRoom bound running
  room_of_running true shut runs has = λ k wire _ here going. absurd (none-some wire (ap (λ (ws : List RoomWire). slice_get ws k) (sym (shut refl)) ∙ here))
  room_of_running false shut runs has = subst (λ (es : List EndedWire). HaveRoom bound (map ended_of es ++ running)) (runs refl) has

  pub full_of_all : (is_shut : Bool) → (is_shut ≡ true → running ≡ []) → (is_shut ≡ false → ended ≡ []) → (full : FullRoom) → WasFull bound running full → WasFull bound (map ended_of ended ++ running) full
  full_of_all true shut runs full was = absurd (none-some was.wire (ap (λ (ws : List RoomWire). slice_get ws full.room) (sym (shut refl)) ∙ was.here))
  full_of_all false shut runs full was = subst (λ (es : List EndedWire). WasFull bound (map ended_of es ++ running) full) (sym (runs refl)) was

is_nothing : {X : Type 0} (xs : List X) → (xs ≡ []) ⊎ (xs ≢ [])
is_nothing [] = inl refl
is_nothing (x ∷ xs) = inr (λ e. absurd (cc))

-- there is room for what is sent of the events: all where the request brought any, else none
pub room_of_sent : (fresh : List CheckedEvent) (bound sent : List Bound) (wires : List RoomWire) → (fresh ≡ [] → sent ≡ []) → (fresh ≢ [] → sent ≡ bound) → HaveRoom bound wires → HaveRoom sent wires
room_of_sent fresh bound sent wires nothing all has =
    ⊎_elim (λ empty. subst (λ (bs : List Bound). HaveRoom bs wires) (sym (nothing empty)) (room_of_none wires)) (λ some. subst (λ (bs : List Bound). HaveRoom bs wires) (sym (all some)) has) (is_nothing fresh)

pub nothing_then : {X : Type 0} (old new : List X) → old ≡ [] → length new ≡ length old → new ≡ []
nothing_then old [] nothing same = refl
nothing_then old (x ∷ new) nothing same = absurd (omega (arith, same, ap length nothing))

pub told_of : {X : Type 0} (o : Option X) (P P' : Type 0) (Q Q' : X → Type 0) → (P → P') → ((x : X) → Q x → Q' x) → MatchOption o P Q → MatchOption o P' Q'
told_of None P P' Q Q' first second is = first is
told_of (Some x) P P' Q Q' first second is = second x is
