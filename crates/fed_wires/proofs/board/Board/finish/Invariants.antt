use Rattle.std.proofs.Common.{◌≡◌}
use Rattle.fed_wires.specs.Board.{board_of}
use Rattle.fed_wires.specs.Seat.{AreAt}
use Rattle.fed_wires.proofs.board.Board.finish.Given as goal

abbrev pub invariant-loop-seat : goal.invariant-loop-seat
invariant-loop-seat l = record { root : l.root.table_id ≡ l.table.shared.table_id; seats : AreAt (board_of l.table.shared.table_id) l.seats.items }

abbrev pub decreases-loop-seat : goal.decreases-loop-seat
decreases-loop-seat l = goal.left-loop-seat l
