use Rattle.std.proofs.Common.{ℕ, ap, sym, subst, refl}
use Rattle.fed_wires.specs.Board.{word_count}
use Rattle.fed_wires.specs.BoardRule.{owned}
use Rattle.fed_wires.specs.Seat.{Seated, AreNewSeats, IsOwner, IsReader, one_word}
use Rattle.fed_wires.proofs.Seats.{one_fewer}
use Rattle.fed_hub_part_tests.proofs.wires.a_board_shows_no_more_than_was_raised.Goals as goal

pub run-requires-clause-seats : goal.run-requires-clause-seats
run-requires-clause-seats g c κs =
    let id = c.in_ok-board.board.id in
    let two : AreNewSeats id 2 (λ word. one_word word 0) c.in_ok-board.owners.items = subst (λ (n : ℕ). AreNewSeats id n (λ word. one_word word 0) c.in_ok-board.owners.items) c.in_ok-board.ensures.board.0 c.in_ok-board.ensures.owners in
    let second = one_fewer id 2 1 (λ word. one_word word 0) c.in_ok-board.owners.items c.pop.new.self.items c.in-Some.second refl c.in-Some.ensures.items two in
    let first = one_fewer id 1 0 (λ word. one_word word 0) c.pop.new.self.items c.pop-2.new.self.items c.in-Some-pop.first refl c.in-Some-pop.ensures.items second.0 in
    let reader = one_fewer id 1 0 (λ _. owned 0 0 0) c.in_ok-board.readers.items c.pop-3.new.self.items c.in-Some-pop-2.reader refl c.in-Some-pop-2.ensures.items c.in_ok-board.ensures.readers in
    (ap (λ (s : Seated). s.board) first.1, ap (λ (s : Seated). s.board) second.1, ap (λ (s : Seated). s.board) reader.1)

pub run-requires-clause-kinds : goal.run-requires-clause-kinds
run-requires-clause-kinds g c κs =
    let id = c.in_ok-board.board.id in
    let two : AreNewSeats id 2 (λ word. one_word word 0) c.in_ok-board.owners.items = subst (λ (n : ℕ). AreNewSeats id n (λ word. one_word word 0) c.in_ok-board.owners.items) c.in_ok-board.ensures.board.0 c.in_ok-board.ensures.owners in
    let second = one_fewer id 2 1 (λ word. one_word word 0) c.in_ok-board.owners.items c.pop.new.self.items c.in-Some.second refl c.in-Some.ensures.items two in
    let first = one_fewer id 1 0 (λ word. one_word word 0) c.pop.new.self.items c.pop-2.new.self.items c.in-Some-pop.first refl c.in-Some-pop.ensures.items second.0 in
    let reader = one_fewer id 1 0 (λ _. owned 0 0 0) c.in_ok-board.readers.items c.pop-3.new.self.items c.in-Some-pop-2.reader refl c.in-Some-pop-2.ensures.items c.in_ok-board.ensures.readers in
    (subst IsOwner (sym first.1) refl, subst IsOwner (sym second.1) refl, subst IsReader (sym reader.1) refl)
