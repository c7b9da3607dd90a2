-- Seats that are taken one after another.
use Rattle.std.proofs.Common.{◌≡◌, ℕ, zero, suc, ◌+◌, List, [], ◌∷◌, ◌++◌, append_assoc, refl, sym, ap, ◌∙◌, arith}
use mathlib.Core.Option.{some}
use lib.ListN.{get_elem?}
use Rattle.fed_wires.specs.declared.board_rule.Owned.{Owned}
use Rattle.fed_wires.specs.Board.{BoardId}
use Rattle.fed_wires.specs.Seat.{Seated, new_seat}

-- those that are left, the first of which stands at this place
abbrev pub AreLeft : BoardId → (ℕ → Owned) → ℕ → List Seated → Type 0
AreLeft board words place seats = (k : ℕ) (s : Seated) → get_elem? seats k ≡ some s → s ≡ new_seat board (words (place + k))

pub first_left : (board : BoardId) (words : ℕ → Owned) (place : ℕ) (s : Seated) (seats : List Seated) → AreLeft board words place (s ∷ seats) → s ≡ new_seat board (words place)
first_left board words place s seats are = are zero s refl ∙ ap (λ k. new_seat board (words k)) (omega arith)

pub others_left : (board : BoardId) (words : ℕ → Owned) (place : ℕ) (s : Seated) (seats : List Seated) → AreLeft board words place (s ∷ seats) → AreLeft board words (place + 1) seats
others_left board words place s seats are k t at = are (suc k) t at ∙ ap (λ k. new_seat board (words k)) (omega arith)

-- those taken, and behind them those that are left, are all; so once one more is taken
pub one_more : (seats more rest others all : List Seated) (s : Seated) → more ≡ seats ++ s ∷ [] → rest ≡ s ∷ others → seats ++ rest ≡ all → more ++ others ≡ all
one_more seats more rest others all s is left are = ap (λ (xs : List Seated). xs ++ others) is ∙ append_assoc seats (s ∷ []) others ∙ ap (λ (xs : List Seated). seats ++ xs) (sym left) ∙ are

pub taken : (seats more : List Seated) (s t : Seated) → more ≡ seats ++ s ∷ [] → s ≡ t → more ≡ seats ++ t ∷ []
taken seats more s t is same = is ∙ ap (λ (x : Seated). seats ++ x ∷ []) same
