-- What goes over the wires of the rooms, as the history of an inbox grows.
use Rattle.std.proofs.Common.{arith, ◌≡◌, ◌⊎◌, inl, inr, ℕ, zero, suc, ◌==◌, ◌+◌, ◌<◌, ◌≤◌, Bool, true, false, unwrap_or, List, [], ◌∷◌, ◌++◌, map, length, take, drop, Option, Some, None, option_map, refl, sym, ap, ◌∙◌, subst, append-nil, length-append, true≢false}
use Rattle.std.specs.List.{slice_get, flat_map}
use Rattle.std.proofs.lemmas.Grind.{flat_map-append}
use Rattle.std.proofs.lemmas.List.{take-append-le, drop-append-le, length-map}
use Rattle.std.proofs.lemmas.List.Elements.{filter-append}
use Rattle.std.proofs.lemmas.Option.{same_Some, slice_get-map, slice_get_within}
use Rattle.std.proofs.Math.Seq.{take-append_seam, drop-append_seam}
use Rattle.fed_dest.specs.List.{place_of}
use Rattle.fed_event.specs.Checked.{CheckedEvent}
use Rattle.fed_event.specs.Fields.{room_id_of}
use Rattle.fed_event.specs.Tests.{holds}
use Rattle.fed_inbox.specs.History.{Point, brought}
use Rattle.fed_inbox.specs.Queues.{for_place}
use Rattle.fed_wires.specs.SendEnd.{Sender, with_returned}
use Rattle.fed_wires.specs.WireId.{WireId}
use Rattle.fed_hub_serving.specs.declared.end_place.EndPlace.{EndPlace}
use Rattle.fed_hub_serving.specs.declared.room_wire.RoomWire.{RoomWire}
use Rattle.fed_hub_serving.specs.declared.room_wire.EndedWire.{EndedWire}
use Rattle.fed_hub_serving.specs.Brought.{end_place, brought_before, brought_until, sent_to, IsWithin}
use Rattle.fed_hub_serving.specs.Spreading as spreads
use Rattle.fed_hub_serving.specs.Spreading.{Spread, SpreadAll, with_all_sent}
use Rattle.fed_hub_serving.specs.Wires.{WiresState, running, ended_of, ended_at, all_ended, HasSent, AreSent, names_of, AreUnused}

-- ---- what a history brings

brought_more : (points more : List Point) → brought (points ++ more) ≡ brought points ++ brought more
brought_more points more = flat_map-append (λ (p : Point). p.fresh) points more

brought_one : (point : Point) → brought (point ∷ []) ≡ point.fresh
brought_one point = append-nil point.fresh

module _ (points : List Point) (place : EndPlace) where
  within_more : (more : List Point) → IsWithin points place → IsWithin (points ++ more) place
  within_more more is =
      let longer = length-append points more in
      let rest = drop-append-le place.points points more is.behind in
      let all = ap (λ ps. length (brought ps)) rest ∙ ap length (brought_more (drop place.points points) more) ∙ length-append (brought (drop place.points points)) (brought more) in
      record { behind = omega (arith, is.behind, longer); within = omega (arith, is.within, all) }

  before_more : (more : List Point) → IsWithin points place → brought_before (points ++ more) place ≡ brought_before points place
  before_more more is =
      let rest : brought (drop place.points (points ++ more)) ≡ brought (drop place.points points) ++ brought more =
      ap brought (drop-append-le place.points points more is.behind) ∙ brought_more (drop place.points points) more in
      let some : take place.events (brought (drop place.points (points ++ more))) ≡ take place.events (brought (drop place.points points)) =
      ap (take place.events) rest ∙ take-append-le place.events (brought (drop place.points points)) (brought more) is.within in
      λ i. brought (take-append-le place.points points more is.behind i) ++ some i

module _ (points : List Point) (point : Point) where
  before_here : (events : ℕ) → brought_before (points ++ point ∷ []) (end_place (length points) events) ≡ brought points ++ take events point.fresh
  before_here events =
      λ i. brought (take-append_seam points (point ∷ []) i) ++ take events ((ap brought (drop-append_seam points (point ∷ [])) ∙ brought_one point) i)

  within_here : (events : ℕ) → events ≤ length point.fresh → IsWithin (points ++ point ∷ []) (end_place (length points) events)
  within_here events few =
      let longer = length-append points (point ∷ []) in
      let rest = ap length (ap brought (drop-append_seam points (point ∷ [])) ∙ brought_one point) in
      record { behind = omega (arith, longer); within = omega (arith, few, rest) }

before_end : (points : List Point) → brought_before points (end_place (length points) 0) ≡ brought points
before_end points = append-nil (brought (take (length points) points)) ∙ ap brought (ap (take (length points)) (sym (append-nil points)) ∙ take-append_seam points [])

within_end : (points : List Point) → IsWithin points (end_place (length points) 0)
within_end points = record { behind = omega arith; within = omega arith }

-- ---- one wire

for_more : (known : List (List ℕ)) (k : ℕ) (events more : List CheckedEvent) → for_place known k (events ++ more) ≡ for_place known k events ++ for_place known k more
for_more known k events more = filter-append (λ (e : CheckedEvent). holds (λ place. place == k) (place_of known (room_id_of e.event))) events more

no_end : {X : Type 0} (o : Option X) (x : X) → o ≡ None → o ≡ Some x → ⊥
no_end None x none some = absurd (cc)
no_end (Some y) x none some = absurd (cc)

module _ (names : List (WireId CheckedEvent)) (known : List (List ℕ)) (points : List Point) (k : ℕ) where
  -- what went over a wire that has not ended
  all_went : (is_shut : Bool) (wire : RoomWire) → HasSent names known is_shut points k wire → wire.ended ≡ None → wire.end.sent ≡ for_place known k (brought points)
  all_went is_shut wire has none = has.sent ∙ ap (sent_to known k points) none

  -- a wire that has ended stays as it is
  ended_stays : (is_shut : Bool) (wire : RoomWire) (at : EndPlace) (more : List Point) → wire.ended ≡ Some at → HasSent names known is_shut points k wire → HasSent names known is_shut (points ++ more) k wire
  ended_stays is_shut wire at more is has = record {
    name = has.name;
    sent = has.sent ∙ ap (sent_to known k points) is ∙ sym (ap (for_place known k) (before_more points at more (has.ended at is).0)) ∙ ap (sent_to known k (points ++ more)) (sym is);
    runs = has.runs;
    ended = λ place here. let old = has.ended place here in (within_more points place more old.0, old.1);
  }

  one_served : (is_shut : Bool) (point : Point) (wire now : RoomWire) → HasSent names known is_shut points k wire → Spread known (length points) k point.fresh is_shut wire now
      → HasSent names known is_shut (points ++ point ∷ []) k now
  one_served is_shut point wire _ has (spreads.shut shut) = by wire.ended refl
    where
      by : (o : Option EndPlace) → wire.ended ≡ o → HasSent names known is_shut (points ++ point ∷ []) k wire
      by None is = absurd (true≢false (sym shut ∙ (has.runs is).0))
      by (Some at) is = ended_stays is_shut wire at (point ∷ []) is has
  one_served is_shut point wire _ has (spreads.ended at is) = ended_stays is_shut wire at (point ∷ []) is has
  one_served is_shut point wire _ has (spreads.sent going none) = record {
    name = has.name;
    sent =
        ap (λ es. es ++ for_place known k point.fresh) (all_went is_shut wire has none) ∙ sym (for_more known k (brought points) point.fresh)
        ∙ ap (for_place known k) (ap (λ es. brought points ++ es) (sym (brought_one point)) ∙ sym (brought_more points (point ∷ [])));
    runs = λ _. (going, (has.runs none).1);
    ended = λ place here. absurd (no_end None place refl here);
  }
  one_served is_shut point wire _ has (spreads.back i event going none there for) = record {
    name = has.name;
    sent =
        ap (λ es. es ++ for_place known k (take i point.fresh)) (all_went is_shut wire has none) ∙ sym (for_more known k (brought points) (take i point.fresh))
        ∙ ap (for_place known k) (sym (before_here points point i));
    runs = λ here. absurd (no_end (Some (end_place (length points) i)) (end_place (length points) i) here refl);
    ended = λ place here.
        let same : end_place (length points) i ≡ place = same_Some _ _ here in
        let few = slice_get_within point.fresh i event there in (
          subst (λ (p : EndPlace). IsWithin (points ++ point ∷ []) p) same (within_here points point i (omega arith)),
          inr (ap (λ n. n + 1) (has.runs none).1),
        );
  }

  one_ended : (is_shut : Bool) (wire : RoomWire) → HasSent names known is_shut points k wire → HasSent names known true points k (ended_at (end_place (length points) 0) wire)
  one_ended is_shut wire has = by wire.ended refl
    where
      here : EndPlace
      here = end_place (length points) 0

      by : (o : Option EndPlace) → wire.ended ≡ o → HasSent names known true points k (ended_at here wire)
      by None is = record {
        name = has.name;
        sent = all_went is_shut wire has is ∙ ap (for_place known k) (sym (before_end points)) ∙ ap (λ (o : Option EndPlace). sent_to known k points (Some (unwrap_or o here))) (sym is);
        runs = λ none. absurd (no_end (Some (unwrap_or wire.ended here)) (unwrap_or wire.ended here) none refl);
        ended = λ place there. (subst (λ (p : EndPlace). IsWithin points p) (ap (λ (o : Option EndPlace). unwrap_or o here) (sym is) ∙ same_Some _ _ there) (within_end points), inl refl);
      }
      by (Some at) is = record {
        name = has.name;
        sent = has.sent ∙ ap (sent_to known k points) is ∙ ap (λ (o : Option EndPlace). sent_to known k points (Some (unwrap_or o here))) (sym is);
        runs = λ none. absurd (no_end (Some (unwrap_or wire.ended here)) (unwrap_or wire.ended here) none refl);
        ended = λ place there. (subst (λ (p : EndPlace). IsWithin points p) (ap (λ (o : Option EndPlace). unwrap_or o here) (sym is) ∙ same_Some _ _ there) (has.ended at is).0, inl refl);
      }

-- ---- all wires

pub mapped : {X Y : Type 0} (f : X → Y) (xs : List X) (k : ℕ) (y : Y) → slice_get (map f xs) k ≡ Some y → (x : X) × (slice_get xs k ≡ Some x) × (f x ≡ y)
mapped {X} {Y} f xs k y here = by (slice_get xs k) refl
  where
    by : (o : Option X) → slice_get xs k ≡ o → (x : X) × (slice_get xs k ≡ Some x) × (f x ≡ y)
    by None is = absurd (no_end (option_map f (slice_get xs k)) y (ap (option_map f) is) (sym (slice_get-map f xs k) ∙ here))
    by (Some x) is = (x, is, same_Some (f x) y (sym (ap (option_map f) is) ∙ sym (slice_get-map f xs k) ∙ here))

there_too : {X Y : Type 0} (xs : List X) (ys : List Y) (k : ℕ) (y : Y) → length ys ≡ length xs → slice_get ys k ≡ Some y → (x : X) × (slice_get xs k ≡ Some x)
there_too [] [] k y same here = absurd (cc)
there_too [] (y' ∷ ys) k y same here = absurd (omega arith)
there_too (x ∷ xs) [] k y same here = absurd (cc)
there_too (x ∷ xs) (y' ∷ ys) zero y same here = (x, refl)
there_too (x ∷ xs) (y' ∷ ys) (suc k) y same here = there_too xs ys k y (omega arith) here

module _ (names : List (WireId CheckedEvent)) (known : List (List ℕ)) where
  pub none_sent : (ends : List (Sender CheckedEvent)) → names_of ends ≡ names → AreUnused ends → AreSent names known [] (record { wires = map running ends; is_shut = false })
  none_sent ends named unused = record {
    count = length-map ends running ∙ sym (length-map ends (λ (e : Sender CheckedEvent). e.wire)) ∙ ap length named;
    each = λ k wire here.
        let end = mapped running ends k wire here in
        let new = unused k end.0 end.1 in
        subst (λ (w : RoomWire). HasSent names known false [] k w) end.2 (record {
          name = ap (λ (ns : List (WireId CheckedEvent)). slice_get ns k) (sym named) ∙ slice_get-map (λ (e : Sender CheckedEvent). e.wire) ends k ∙ ap (option_map (λ (e : Sender CheckedEvent). e.wire)) end.1;
          sent = new.0;
          runs = λ _. (refl, new.1);
          ended = λ place none. absurd (no_end None place refl none);
        });
  }

  pub all_served : (points : List Point) (point : Point) (old new : WiresState) → AreSent names known points old → SpreadAll known (length points) point.fresh old new → AreSent names known (points ++ point ∷ []) new
  all_served points point old new are so = record {
    count = so.count ∙ are.count;
    each = λ k now here.
        let wire = there_too old.wires new.wires k now so.count here in
        subst (λ (b : Bool). HasSent names known b (points ++ point ∷ []) k now) (sym so.shut)
        (one_served names known points k old.is_shut point wire.0 now (are.each k wire.0 wire.1) (so.each k wire.0 now wire.1 here));
  }

  pub all_end : (points : List Point) (w : WiresState) → AreSent names known points w → AreSent names known points (all_ended (end_place (length points) 0) w)
  all_end points w are = record {
    count = length-map w.wires (ended_at (end_place (length points) 0)) ∙ are.count;
    each = λ k now here.
        let wire = mapped (ended_at (end_place (length points) 0)) w.wires k now here in
        subst (λ (x : RoomWire). HasSent names known true points k x) wire.2 (one_ended names known points k w.is_shut wire.0 (are.each k wire.0 wire.1));
  }
