-- Where an event goes: to listed servers alone.
use Rattle.std.proofs.Common.{arith, ◌≡◌, ◌==◌, ◌&&◌, ◌||◌, ◌<◌, not, Bool, true, false, ℕ, zero, suc, List, [], ◌∷◌, length, get_or, Option, Some, None, refl, sym, ap, ◌∙◌, true≢false}
use Rattle.std.specs.List.{All, slice_get}
use Rattle.std.proofs.lemmas.Bool.{eq-eqb}
use Rattle.std.proofs.lemmas.Option.{slice_get_within}
use Rattle.fed_event.specs.Tests.{holds}
use Rattle.fed_room_contract.specs.declared.graph.Stored.{Stored}
use Rattle.fed_room_contract.specs.State.{StateMap}
use Rattle.fed_dest.specs.Joined.{is_destination, is_joined}
use Rattle.fed_dest.specs.ServerSet.{is_among}

among_at : (xs : List ℕ) (k d : ℕ) → k < length xs → is_among xs (get_or xs k d) ≡ true
among_at [] k d within = absurd (omega arith)
among_at (x ∷ xs) zero d within = ap (λ b. b || is_among xs x) (eq-eqb x x refl)
among_at (x ∷ xs) (suc k) d within = by (x == get_or xs k d) (among_at xs k d (omega arith))
  where
    by : (b : Bool) → is_among xs (get_or xs k d) ≡ true → (b || is_among xs (get_or xs k d)) ≡ true
    by true is = refl
    by false is = is

second : (a b : Bool) → (a && b) ≡ true → b ≡ true
second true b is = is
second false b is = absurd (true≢false (sym is))

listed : (test : List ℕ → Bool) (servers : List (List ℕ)) (d : ℕ) → holds test (slice_get servers d) ≡ true → d < length servers
listed test servers d is = by (slice_get servers d) refl is
  where
    by : (o : Option (List ℕ)) → slice_get servers d ≡ o → holds test o ≡ true → d < length servers
    by None at is = absurd (true≢false (sym is))
    by (Some x) at is = slice_get_within servers d x at

pub places_within : (events : List Stored) (before : StateMap) (servers : List (List ℕ)) (own : ℕ) (dests : List ℕ) → ((d : ℕ) → is_among dests d ≡ is_destination events before servers own d) → All (λ d. d < length servers) dests
places_within events before servers own dests each k d within =
    let here = get_or dests k d in
    listed (is_joined events before) servers here (second (not (here == own)) (holds (is_joined events before) (slice_get servers here)) (sym (each here) ∙ among_at dests k d within))
