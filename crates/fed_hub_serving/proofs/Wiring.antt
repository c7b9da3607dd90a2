-- The wires of the rooms, as a list of those that have ended and a list of those that run.
use Rattle.std.proofs.Common.{arith, ◌≡◌, ℕ, ◌<◌, ◌≤◌, Bool, true, false, is_some, List, [], ◌∷◌, ◌++◌, map, length, set, Option, Some, None, refl, sym, ap, ◌∙◌, subst}
use Rattle.std.specs.List.{slice_get}
use Rattle.std.proofs.lemmas.List.{append-nil, map-append}
use Rattle.fed_hub_serving.specs.declared.bound.Bound.{Bound}
use Rattle.fed_hub_serving.specs.declared.end_place.EndPlace.{EndPlace}
use Rattle.fed_hub_serving.specs.declared.room_wire.RoomWire.{RoomWire}
use Rattle.fed_hub_serving.specs.declared.room_wire.EndedWire.{EndedWire}
use Rattle.fed_hub_serving.specs.Spreading as spreads
use Rattle.fed_hub_serving.specs.Spreading.{Goes, Passes}
use Rattle.fed_hub_serving.specs.Wires.{WiresState, ended_of, ended_at}

pub some_at : {X : Type 0} (o : Option X) → is_some o ≡ true → (x : X) × (o ≡ Some x)
some_at None is = absurd (cc)
some_at (Some x) is = (x, refl)

pub none_at : {X : Type 0} (o : Option X) → is_some o ≡ false → o ≡ None
none_at None is = refl
none_at (Some x) is = absurd (cc)

no_place : (k : ℕ) (xs : List RoomWire) → xs ≡ [] → k < length xs → ⊥
no_place k [] none within = omega arith
no_place k (x ∷ xs) none within = absurd (cc)

module _ (ended : List EndedWire) (running : List RoomWire) where
  abbrev pub all : Bool → List RoomWire → WiresState
  all is_shut wires = record { wires = map ended_of ended ++ wires; is_shut = is_shut }

  module _ (bound : Bound) (place : EndPlace) (k : ℕ) (room : bound.room ≡ Some k) where
    pub goes_here : (is_shut : Bool) (wire new : RoomWire) → (is_shut ≡ true → running ≡ []) → (is_shut ≡ false → ended ≡ []) → k < length running → slice_get running k ≡ Some wire → Goes bound.event place wire new
        → Passes bound place (all is_shut running) (all is_shut (set running k new))
    goes_here true wire new shut runs within here goes = absurd (no_place k running (shut refl) within)
    goes_here false wire new shut runs within here goes =
        subst (λ (es : List EndedWire). Passes bound place (record { wires = map ended_of es ++ running; is_shut = false }) (record { wires = map ended_of es ++ set running k new; is_shut = false }))
        (sym (runs refl)) (spreads.goes k wire new refl room here goes)

    pub goes_away : (is_shut : Bool) → (is_shut ≡ true → running ≡ []) → (is_shut ≡ false → ended ≡ []) → length running ≤ k → Passes bound place (all is_shut running) (all is_shut running)
    goes_away true shut runs beyond = spreads.shut refl
    goes_away false shut runs beyond =
        subst (λ (es : List EndedWire). Passes bound place (record { wires = map ended_of es ++ running; is_shut = false }) (record { wires = map ended_of es ++ running; is_shut = false }))
        (sym (runs refl)) (spreads.away k room beyond)

-- ---- all of them end

still_ended : (place : EndPlace) (ended : List EndedWire) → map (ended_at place) (map ended_of ended) ≡ map ended_of ended
still_ended place [] = refl
still_ended place (wire ∷ ended) = ap (λ ws. ended_of wire ∷ ws) (still_ended place ended)

pub all_of_them : (place : EndPlace) (ended new : List EndedWire) (running : List RoomWire) → map ended_of new ≡ map ended_of ended ++ map (ended_at place) running
    → map ended_of new ++ [] ≡ map (ended_at place) (map ended_of ended ++ running)
all_of_them place ended new running is =
    append-nil (map ended_of new) ∙ is ∙ ap (λ ws. ws ++ map (ended_at place) running) (sym (still_ended place ended)) ∙ sym (map-append (ended_at place) (map ended_of ended) running)
