use Rattle.std.proofs.Common.{◌≡◌, ℕ, suc, ◌+◌, arith, List, [], ◌∷◌, ◌++◌, length, length-append, refl, sym, ap, ◌∙◌}
use mathlib.Core.Option.{some}
use lib.ListN.{get_elem?}
use Rattle.fed_wires.specs.Board.{BoardId}
use Rattle.fed_wires.specs.Seat.{Seated, AreOwners, new_seat, one_word}
use Rattle.fed_hub_part_tests.proofs.kept.are_all_placed.Goals as goal

-- the one seat that there is
alone : {X : Type 0} (all rest : List X) (x : X) → all ≡ rest ++ x ∷ [] → length all ≡ 1 → get_elem? all 0 ≡ some x
alone all [] x is one = ap (λ xs. get_elem? xs 0) is
alone all (y ∷ ys) x is one =
    let count : length all ≡ suc (length ys + 1) = ap length is ∙ ap suc (length-append ys (x ∷ [])) in
    absurd (omega arith)

first_seat : (board : BoardId) (all rest : List Seated) (seat : Seated) → AreOwners board all → all ≡ rest ++ seat ∷ [] → length all ≡ 1 → seat ≡ new_seat board (one_word 0 0)
first_seat board all rest seat owners is one = owners.1 0 seat (alone all rest seat is one)

pub new-outbox-requires-clause-board : goal.new-outbox-requires-clause-board
new-outbox-requires-clause-board g c =
    ap (λ s. s.board) (first_seat c.args.board.now.id c.args.owners.items _ c.in_ok-pop.field-0 c.requires.owners.0 c.in_ok-pop.ensures.items c.requires.owners.1) ∙ c.requires.board

pub new-outbox-requires-clause-word : goal.new-outbox-requires-clause-word
new-outbox-requires-clause-word g c =
    ap (λ s. s.owned) (first_seat c.args.board.now.id c.args.owners.items _ c.in_ok-pop.field-0 c.requires.owners.0 c.in_ok-pop.ensures.items c.requires.owners.1)
    ∙ ap (λ d. one_word d 0) (sym c.new-dest.ensures)
