use Rattle.std.proofs.Common.{ap, ◌∙◌, sym}
use Rattle.fed_wires.specs.Board.{BoardId, Shown}
use Rattle.fed_wires.specs.Seat.{Seated}
use Rattle.fed_wires.proofs.Counting.{admits}
use Rattle.fed_wires.proofs.board.Board.looker.Goals as goal

pub split_seat-token-requires : goal.split_seat-token-requires
split_seat-token-requires c =
    let seat = ap (λ (x : Seated). x.board.table) c.seat.view_is in
    let board = ap (λ (x : Shown). x.id.table) c.self.view_is in
    (seat ∙ ap (λ (x : BoardId). x.table) c.requires.board ∙ sym board, c.self.invariant.1, admits _ _ _)
