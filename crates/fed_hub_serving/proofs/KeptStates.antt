-- What an inbox under its lock is, as requests are answered and its wires end.
use Rattle.std.proofs.Common.{◌≡◌, ◌≢◌, ◌⊎◌, inl, inr, ℕ, Bool, unwrap_or, List, [], ◌∷◌, ◌++◌, map, length, replicate, Option, Some, None, Result, Ok, Err, option_map, refl, sym, ap, ◌∙◌, subst}
use Rattle.std.specs.Prelude.{OnErr}
use Rattle.std.specs.List.{slice_get}
use Rattle.std.proofs.lemmas.List.{length-map}
use Rattle.std.proofs.lemmas.Option.{slice_get-map}
use Rattle.fed_event.specs.Checked.{CheckedEvent}
use Rattle.fed_keys.specs.Keys.{Checks}
use Rattle.fed_http.specs.Message.{RequestValue, Answer}
use Rattle.fed_inbox.specs.History.{Point, one_more}
use Rattle.fed_inbox.specs.Inbox.{InboxState}
use Rattle.fed_inbox.specs.Receiver.{ReceiverState, IsInboxOf}
use Rattle.fed_inbox.specs.WholeRequest.{IsAnsweredWhole}
use Rattle.fed_wires.specs.SendEnd.{Sender}
use Rattle.fed_wires.specs.WireId.{WireId}
use Rattle.fed_hub_serving.specs.declared.bound.Bound.{Bound}
use Rattle.fed_hub_serving.specs.declared.end_place.EndPlace.{EndPlace}
use Rattle.fed_hub_serving.specs.declared.room_wire.RoomWire.{RoomWire}
use Rattle.fed_hub_serving.specs.declared.room_wire.EndedWire.{EndedWire}
use Rattle.fed_hub_serving.specs.Bound.{AreBound, bound_of, events_in}
use Rattle.fed_hub_serving.specs.Sections.{EndsAt, EndAmong, IsServed}
use Rattle.fed_hub_serving.specs.Serving.{ServingState, ended_in, IsServing, AreLeft}
use Rattle.fed_hub_serving.specs.Spreading as spreads
use Rattle.fed_hub_serving.specs.Spreading.{Spread, SpreadAll}
use Rattle.fed_hub_serving.specs.Wires.{WiresState, AreSent, running, ended_of, ended_at}
use Rattle.fed_hub_serving.specs.WireRoom.{HaveTakenIn}
use Rattle.fed_hub_serving.proofs.WireRooms.{taken_sent, taken_ended}
use Rattle.fed_hub_serving.proofs.Sent.{mapped, all_served}
use Rattle.fed_hub_serving.proofs.Spreads.{none_went}
use Rattle.fed_hub_serving.proofs.Takes.{takes}

-- ---- events on their way

pub are_bound : (known : List (List ℕ)) (events : List CheckedEvent) → AreBound known (map (bound_of known) events)
are_bound known [] = tt
are_bound known (event ∷ events) = (refl, are_bound known events)

pub same_events : (known : List (List ℕ)) (events : List CheckedEvent) → events_in (map (bound_of known) events) ≡ events
same_events known [] = refl
same_events known (event ∷ events) = ap (λ es. event ∷ es) (same_events known events)

is_nothing : {X : Type 0} (xs : List X) → (xs ≡ []) ⊎ (xs ≢ [])
is_nothing [] = inl refl
is_nothing (x ∷ xs) = inr (λ e. absurd (cc))

module _ (known : List (List ℕ)) (fresh events : List CheckedEvent) (bound sent : List Bound) (is : bound ≡ map (bound_of known) events) (each : (fresh ≡ []) ⊎ (fresh ≡ events))
    (none : fresh ≡ [] → sent ≡ []) (all : fresh ≢ [] → sent ≡ bound) where
  -- what goes over the wires is what was brought, each with the place of its room
  pub goes_as_bound : AreBound known sent × (events_in sent ≡ fresh)
  goes_as_bound = by (is_nothing fresh) each
    where
      by : (fresh ≡ []) ⊎ (fresh ≢ []) → (fresh ≡ []) ⊎ (fresh ≡ events) → AreBound known sent × (events_in sent ≡ fresh)
      by (inl nothing) _ = (subst (AreBound known) (sym (none nothing)) tt, ap events_in (none nothing) ∙ sym nothing)
      by (inr some) (inl nothing) = absurd (some nothing)
      by (inr some) (inr same) = (subst (AreBound known) (sym (all some ∙ is)) (are_bound known events), ap events_in (all some ∙ is) ∙ same_events known events ∙ sym same)

-- ---- a request is answered

abbrev place_in : RoomWire → Option EndPlace
place_in wire = wire.ended

module _ (known : List (List ℕ)) (points : ℕ) (fresh : List CheckedEvent) where
  end_at : (k : ℕ) (is_shut : Bool) (wire now : RoomWire) → Spread known points k fresh is_shut wire now → (now.ended ≡ wire.ended) ⊎ EndsAt known points fresh k wire.ended now.ended
  end_at k is_shut wire _ (spreads.shut shut) = inl refl
  end_at k is_shut wire _ (spreads.ended at is) = inl refl
  end_at k is_shut wire _ (spreads.sent going none) = inl (sym none)
  end_at k is_shut wire _ (spreads.back i event going none there for) = inr (record { events = i; event = event; ran = none; there = there; room = for; ended = refl })

  pub end_among : (old new : WiresState) → SpreadAll known points fresh old new → EndAmong known points fresh (ended_in old) (ended_in new)
  end_among old new so = record {
    count = length-map new.wires place_in ∙ so.count ∙ sym (length-map old.wires place_in);
    each = λ k was is here there.
        let wire = mapped place_in old.wires k was here in
        let now = mapped place_in new.wires k is there in
        subst (λ (w : Option EndPlace). (is ≡ w) ⊎ EndsAt known points fresh k w is) wire.2
        (subst (λ (n : Option EndPlace). (n ≡ wire.0.ended) ⊎ EndsAt known points fresh k wire.0.ended n) now.2 (end_at k old.is_shut wire.0 now.0 (so.each k wire.0 now.0 wire.1 now.1)));
  }

module _ (names : List (WireId CheckedEvent)) (known : List (List ℕ)) (checks : Checks) (receiver : ReceiverState) (beginning : InboxState) (points : List Point) (inbox : InboxState) (w : WiresState)
    (point : Point) (new : InboxState) (now : WiresState) (whole : IsAnsweredWhole checks inbox point.request point.reply new point.fresh) (spread : SpreadAll known (length points) point.fresh w now) where
  pub goes_on_serving : IsServing names known checks receiver beginning points inbox w → IsInboxOf receiver new → IsServing names known checks receiver beginning (points ++ point ∷ []) new now
  goes_on_serving is server = record {
    history = one_more points inbox point new is.history whole;
    server = server;
    sent = all_served names known points point w now is.sent spread;
  }

  pub is_served : point.reply.status ≢ 500
      → IsServed checks known point.request (record { inbox = inbox; points = points; ended = ended_in w; is_shut = w.is_shut }) point.reply
      (record { inbox = new; points = points ++ point ∷ []; ended = ended_in now; is_shut = now.is_shut })
  is_served found = record {
    fresh = point.fresh;
    takes = takes checks known point.request inbox point.reply new point.fresh whole;
    points = refl;
    ended = end_among known (length points) point.fresh w now spread;
    shut = spread.shut;
    found = found;
  }

-- a request whose transaction was taken before brings nothing
module _ (names : List (WireId CheckedEvent)) (known : List (List ℕ)) (checks : Checks) (receiver : ReceiverState) (beginning : InboxState) (points : List Point) (inbox : InboxState) (w : WiresState)
    (request : RequestValue) (reply : Answer) (whole : IsAnsweredWhole checks inbox request reply inbox []) where
  abbrev pub again : Point
  again = record { request = request; reply = reply; fresh = [] }

  pub serves_again : IsServing names known checks receiver beginning points inbox w → IsServing names known checks receiver beginning (points ++ again ∷ []) inbox w
  serves_again is = goes_on_serving names known checks receiver beginning points inbox w again inbox w whole (none_went known (length points) w) is is.server

  pub is_served_again : reply.status ≢ 500
      → IsServed checks known request (record { inbox = inbox; points = points; ended = ended_in w; is_shut = w.is_shut }) reply
      (record { inbox = inbox; points = points ++ again ∷ []; ended = ended_in w; is_shut = w.is_shut })
  is_served_again found = is_served names known checks receiver beginning points inbox w again inbox w whole (none_went known (length points) w) found

-- ---- wires take in credits

module _ (old new : WiresState) (taken : HaveTakenIn old.wires new.wires) (shut : new.is_shut ≡ old.is_shut) where
  pub still_serving : (names : List (WireId CheckedEvent)) (known : List (List ℕ)) (checks : Checks) (receiver : ReceiverState) (beginning : InboxState) (points : List Point) (inbox : InboxState)
      → IsServing names known checks receiver beginning points inbox old → IsServing names known checks receiver beginning points inbox new
  still_serving names known checks receiver beginning points inbox is = record { history = is.history; server = is.server; sent = taken_sent names known points old new is.sent taken shut }

  -- it is seen as it was
  pub same_state : (points : List Point) (inbox : InboxState)
      → ◌≡◌ {A = ServingState} (record { inbox = inbox; points = points; ended = ended_in new; is_shut = new.is_shut }) (record { inbox = inbox; points = points; ended = ended_in old; is_shut = old.is_shut })
  same_state points inbox i = record { inbox = inbox; points = points; ended = taken_ended old.wires new.wires taken i; is_shut = shut i }

pub on_err : {X Y : Type 0} (told : Result X Y) (P : Type 0) → P → OnErr told P
on_err (Ok x) P is = tt
on_err (Err y) P is = is

-- ---- wires that have not ended, or all have

pub none_ended : (ends : List (Sender CheckedEvent)) → map place_in (map running ends) ≡ replicate (length ends) None
none_ended [] = refl
none_ended (end ∷ ends) = ap (λ (es : List (Option EndPlace)). None ∷ es) (none_ended ends)

pub places_at_end : (place : EndPlace) (wires : List RoomWire) → map place_in (map (ended_at place) wires) ≡ map (λ (ended : Option EndPlace). Some (unwrap_or ended place)) (map place_in wires)
places_at_end place [] = refl
places_at_end place (wire ∷ wires) = ap (λ (es : List (Option EndPlace)). Some (unwrap_or wire.ended place) ∷ es) (places_at_end place wires)

pub are_left : (names : List (WireId CheckedEvent)) (known : List (List ℕ)) (inbox : InboxState) (points : List Point) (w : WiresState) (left : List EndedWire) → AreSent names known points w → map ended_of left ≡ w.wires
    → AreLeft names known (record { inbox = inbox; points = points; ended = ended_in w; is_shut = w.is_shut }) left
are_left names known inbox points w left are same = record {
  count = sym (length-map left ended_of) ∙ ap length same ∙ are.count;
  each = λ k wire here.
      let there : slice_get w.wires k ≡ Some (ended_of wire) = ap (λ (ws : List RoomWire). slice_get ws k) (sym same) ∙ slice_get-map ended_of left k ∙ ap (option_map ended_of) here in
      let has = are.each k (ended_of wire) there in
      record { name = has.name; sent = has.sent; place = slice_get-map place_in w.wires k ∙ ap (option_map place_in) there };
}
