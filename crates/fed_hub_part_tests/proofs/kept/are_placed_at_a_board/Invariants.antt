use Rattle.std.specs.Prelude.{[]}
use Rattle.fed_hub_part_tests.proofs.kept.are_placed_at_a_board.Given as goal

abbrev pub ghosts-are_all_placed : goal.ghosts-are_all_placed
ghosts-are_all_placed a = record { wires = []; own = 0; board = a.board.now.id; events = 0; edus = 0; parts = 0 }
