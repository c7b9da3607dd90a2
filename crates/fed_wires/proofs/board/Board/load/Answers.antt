use Rattle.std.proofs.Common.{ap, sym, ◌∙◌, arith}
use Rattle.atomic_table.specs.Seated.{TableId}
use Rattle.fed_wires.specs.Board.{BoardId, Shown}
use Rattle.fed_wires.specs.Seat.{Seated}
use Rattle.fed_wires.proofs.Counting.{loads}
use Rattle.fed_wires.proofs.board.Board.load.Goals as goal

pub load-requires : goal.load-requires
load-requires c =
    let seat = ap (λ (x : Seated). x.board.table) c.seat.view_is in
    let board = ap (λ (x : Shown). x.id.table) c.self.view_is in
    let words = ap (λ (z : TableId). z.words) board in
    (seat ∙ ap (λ (x : BoardId). x.table) c.requires.board ∙ sym board, omega (arith, words, c.requires.word), loads _ _ _ _ _)
