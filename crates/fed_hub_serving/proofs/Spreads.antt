-- Events that go over the wires to their rooms, one after another.
use Rattle.std.proofs.Common.{arith, ◌≡◌, ◌⊎◌, inl, inr, ℕ, zero, suc, ◌-◌, ◌==◌, Bool, true, false, if◌then◌else◌, List, [], ◌∷◌, ◌++◌, length, take, Option, Some, None, refl, sym, ap, ◌∙◌, subst, append-nil, append_assoc, length-append, length-set, true≢false}
use Rattle.std.specs.List.{slice_get}
use Rattle.std.proofs.lemmas.Bool.{eq-eqb, ne_eqb}
use Rattle.std.proofs.lemmas.List.{take-append-le}
use Rattle.std.proofs.lemmas.List.Elements.{filter-append}
use Rattle.std.proofs.lemmas.Option.{same_Some, slice_get_within}
use Rattle.std.proofs.Math.Seq.{take-append_seam}
use Rattle.fed_dest.specs.List.{place_of}
use Rattle.fed_event.specs.Checked.{CheckedEvent}
use Rattle.fed_event.specs.Fields.{room_id_of}
use Rattle.fed_event.specs.Tests.{holds}
use Rattle.fed_wires.proofs.Places.{set_all}
use Rattle.fed_inbox.specs.Queues.{for_place}
use Rattle.fed_wires.specs.SendEnd.{with_returned}
use Rattle.fed_hub_serving.specs.declared.bound.Bound.{Bound}
use Rattle.fed_hub_serving.specs.declared.end_place.EndPlace.{EndPlace}
use Rattle.fed_hub_serving.specs.declared.room_wire.RoomWire.{RoomWire}
use Rattle.fed_hub_serving.specs.Brought.{end_place}
use Rattle.fed_hub_serving.specs.Wires.{WiresState, running}
use Rattle.fed_hub_serving.specs.Spreading as spreads
use Rattle.fed_hub_serving.specs.Spreading.{Goes, Passes, Spread, SpreadAll, IsFor, with_all_sent}

no_end : {X : Type 0} (o : Option X) (x : X) → o ≡ None → o ≡ Some x → ⊥
no_end None x none some = absurd (cc)
no_end (Some y) x none some = absurd (cc)

none_less : (n : ℕ) → n - 0 ≡ n
none_less n = omega arith

-- ---- the first of a list and one more

get_more : {X : Type 0} (xs ys : List X) (i : ℕ) (x : X) → slice_get xs i ≡ Some x → slice_get (xs ++ ys) i ≡ Some x
get_more [] ys i x here = absurd (cc)
get_more (y ∷ xs) ys zero x here = here
get_more (y ∷ xs) ys (suc i) x here = get_more xs ys i x here

get_last : {X : Type 0} (xs : List X) (x : X) → slice_get (xs ++ x ∷ []) (length xs) ≡ Some x
get_last [] x = refl
get_last (y ∷ xs) x = get_last xs x

take_fewer : {X : Type 0} (xs ys : List X) (i : ℕ) (x : X) → slice_get xs i ≡ Some x → take i (xs ++ ys) ≡ take i xs
take_fewer xs ys i x here = let within = slice_get_within xs i x here in take-append-le i xs ys (omega arith)

module _ (known : List (List ℕ)) (k : ℕ) where
  for_one : (event : CheckedEvent) → IsFor known k event → for_place known k (event ∷ []) ≡ event ∷ []
  for_one event is =
      ap (λ (o : Option ℕ). if◌then◌else◌ {A = List CheckedEvent} (holds (λ place. place == k) o) (event ∷ []) []) is
      ∙ ap (λ (b : Bool). if◌then◌else◌ {A = List CheckedEvent} b (event ∷ []) []) (eq-eqb k k refl)

  for_other : (event : CheckedEvent) → (IsFor known k event → ⊥) → for_place known k (event ∷ []) ≡ []
  for_other event not = by (place_of known (room_id_of event.event)) not
    where
      by : (o : Option ℕ) → (o ≡ Some k → ⊥) → if◌then◌else◌ {A = List CheckedEvent} (holds (λ place. place == k) o) (event ∷ []) [] ≡ []
      by None never = refl
      by (Some place) never = ap (λ (b : Bool). if◌then◌else◌ {A = List CheckedEvent} b (event ∷ []) []) (ne_eqb place k (λ e. never (ap Some e)))

  for_more : (events : List CheckedEvent) (event : CheckedEvent) → for_place known k (events ++ event ∷ []) ≡ for_place known k events ++ for_place known k (event ∷ [])
  for_more events event = filter-append (λ (e : CheckedEvent). holds (λ place. place == k) (place_of known (room_id_of e.event))) events (event ∷ [])

  -- ---- one wire

  module _ (points : ℕ) (events : List CheckedEvent) (event : CheckedEvent) (is_shut : Bool) (wire : RoomWire) where
    abbrev Now : RoomWire → Type 0
    Now now = Spread known points k events is_shut wire now

    abbrev Then : RoomWire → Type 0
    Then new = Spread known points k (events ++ event ∷ []) is_shut wire new

    all_sent : (more : List CheckedEvent) → for_place known k (events ++ event ∷ []) ≡ for_place known k events ++ more
        → is_shut ≡ false → wire.ended ≡ None → Then (running (with_all_sent (with_all_sent wire.end (for_place known k events)) more))
    all_sent more is runs none =
        let before = for_place known k events in
        let left : wire.end.room - length (before ++ more) ≡ wire.end.room - length before - length more = omega (arith, length-append before more) in
        subst (λ (y : List CheckedEvent × ℕ). Then (running (record { wire = wire.end.wire; sent = y.0; returned = wire.end.returned; room = y.1 })))
        (λ i. ((ap (λ es. wire.end.sent ++ es) is ∙ sym (append_assoc wire.end.sent before more)) i, (ap (λ (es : List CheckedEvent). wire.end.room - length es) is ∙ left) i)) (spreads.sent runs none)

    came_back : (i : ℕ) (e : CheckedEvent) (before : List CheckedEvent) → is_shut ≡ false → wire.ended ≡ None → slice_get (events ++ event ∷ []) i ≡ Some e → IsFor known k e → take i (events ++ event ∷ []) ≡ before
        → Then (record { end = with_returned (with_all_sent wire.end (for_place known k before)); ended = Some (end_place points i) })
    came_back i e before runs none there for is =
        subst (λ (es : List CheckedEvent). Then (record { end = with_returned (with_all_sent wire.end (for_place known k es)); ended = Some (end_place points i) })) is (spreads.back i e runs none there for)

    -- the event is for the room
    goes_on : (now new : RoomWire) → Now now → is_shut ≡ false → IsFor known k event → Goes event (end_place points (length events)) now new → Then new
    goes_on _ _ (spreads.shut shut) runs for goes = absurd (true≢false (sym shut ∙ runs))
    goes_on _ _ (spreads.ended at is) runs for (spreads.ended at' is') = spreads.ended at is
    goes_on _ _ (spreads.ended at is) runs for (spreads.sent none) = absurd (no_end wire.ended at none is)
    goes_on _ _ (spreads.ended at is) runs for (spreads.back none) = absurd (no_end wire.ended at none is)
    goes_on _ _ (spreads.sent runs none) _ for (spreads.ended at is) = absurd (no_end None at refl is)
    goes_on _ _ (spreads.sent runs none) _ for (spreads.sent none') = all_sent (event ∷ []) (for_more events event ∙ ap (λ es. for_place known k events ++ es) (for_one event for)) runs none
    goes_on _ _ (spreads.sent runs none) _ for (spreads.back none') = came_back (length events) event events runs none (get_last events event) for (take-append_seam events (event ∷ []))
    goes_on _ _ (spreads.back i e runs none there for) _ _ (spreads.ended at is) = came_back i e (take i events) runs none (get_more events (event ∷ []) i e there) for (take_fewer events (event ∷ []) i e there)
    goes_on _ _ (spreads.back i e runs none there for) _ _ (spreads.sent none') = absurd (no_end (Some (end_place points i)) (end_place points i) none' refl)
    goes_on _ _ (spreads.back i e runs none there for) _ _ (spreads.back none') = absurd (no_end (Some (end_place points i)) (end_place points i) none' refl)

    -- it is for another room, or goes nowhere
    stays : (now : RoomWire) → Now now → (is_shut ≡ true) ⊎ (IsFor known k event → ⊥) → Then now
    stays _ (spreads.shut shut) other = spreads.shut shut
    stays _ (spreads.ended at is) other = spreads.ended at is
    stays _ (spreads.back i e runs none there for) other = came_back i e (take i events) runs none (get_more events (event ∷ []) i e there) for (take_fewer events (event ∷ []) i e there)
    stays _ (spreads.sent runs none) (inl shut) = absurd (true≢false (sym shut ∙ runs))
    stays _ (spreads.sent runs none) (inr other) =
        let room = wire.end.room - length (for_place known k events) in
        subst (λ (y : List CheckedEvent × ℕ). Then (running (record { wire = wire.end.wire; sent = y.0; returned = wire.end.returned; room = y.1 })))
        (λ i. (append-nil (wire.end.sent ++ for_place known k events) i, none_less room i))
        (all_sent [] (for_more events event ∙ ap (λ es. for_place known k events ++ es) (for_other event other)) runs none)

-- ---- all wires

module _ (known : List (List ℕ)) (points : ℕ) where
  begins : (k : ℕ) (is_shut : Bool) (wire : RoomWire) → Spread known points k [] is_shut wire wire
  begins k true wire = spreads.shut refl
  begins k false wire = by wire.ended refl
    where
      by : (o : Option EndPlace) → wire.ended ≡ o → Spread known points k [] false wire wire
      by (Some at) is = spreads.ended at is
      by None is =
          subst (λ (w : RoomWire). Spread known points k [] false wire w)
          (λ i. record { end = record { wire = wire.end.wire; sent = append-nil wire.end.sent i; returned = wire.end.returned; room = none_less wire.end.room i }; ended = sym is i }) (spreads.sent refl is)

  pub none_went : (w : WiresState) → SpreadAll known points [] w w
  none_went w = record {
    count = refl;
    shut = refl;
    each = λ k wire now here there. subst (λ (n : RoomWire). Spread known points k [] w.is_shut wire n) (same_Some wire now (sym here ∙ there)) (begins k w.is_shut wire);
  }

  -- one event more
  pub one_more_went : (events : List CheckedEvent) (old now new : WiresState) (bound : Bound) → SpreadAll known points events old now → bound.room ≡ place_of known (room_id_of bound.event.event)
      → Passes bound (end_place points (length events)) now new → SpreadAll known points (events ++ bound.event ∷ []) old new
  one_more_went events old now new bound so room passes = by new passes
    where
      unmoved : ((k : ℕ) (now' : RoomWire) → slice_get now.wires k ≡ Some now' → (old.is_shut ≡ true) ⊎ (IsFor known k bound.event → ⊥)) → SpreadAll known points (events ++ bound.event ∷ []) old now
      unmoved away = record {
        count = so.count;
        shut = so.shut;
        each = λ k wire now' here there. stays known k points events bound.event old.is_shut wire now' (so.each k wire now' here there) (away k now' there);
      }

      by : (new : WiresState) → Passes bound (end_place points (length events)) now new → SpreadAll known points (events ++ bound.event ∷ []) old new
      by _ (spreads.shut shut) = unmoved (λ k now' there. inl (sym so.shut ∙ shut))
      by _ (spreads.nowhere none) = unmoved (λ k now' there. inr (λ for. no_end bound.room k none (room ∙ for)))
      by _ (spreads.away j is beyond) =
          unmoved (λ k now' there. inr (λ for. let within = slice_get_within now.wires k now' there in let same : k ≡ j = same_Some k j (sym (room ∙ for) ∙ is) in absurd (omega (arith, within, beyond, same))))
      by _ (spreads.goes j wire new' runs is there goes) = record {
        count = length-set now.wires j new' ∙ so.count;
        shut = so.shut;
        each = λ k before after here there'.
            set_all (λ d (w : RoomWire). (b : RoomWire) → slice_get old.wires d ≡ Some b → Spread known points d (events ++ bound.event ∷ []) old.is_shut b w) now.wires j new'
            (λ b was. goes_on known j points events bound.event old.is_shut b wire new' (so.each j b wire was there) (sym so.shut ∙ runs) (sym room ∙ is) goes)
            (λ d w apart stood b was. stays known d points events bound.event old.is_shut b w (so.each d b w was stood) (inr (λ for. apart (same_Some d j (sym (room ∙ for) ∙ is)))))
            k after there' before here;
      }
