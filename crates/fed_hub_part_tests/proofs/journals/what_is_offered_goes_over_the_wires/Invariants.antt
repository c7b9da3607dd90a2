use Rattle.fed_wires.specs.Board.{no_board}
use Rattle.fed_hub_state.specs.Spreading.{wires_of}
use Rattle.fed_hub_part_tests.proofs.journals.what_is_offered_goes_over_the_wires.Given as goal

abbrev pub ghosts-run : goal.ghosts-run
ghosts-run g a = record { wires = wires_of a.ends.items; own = 0; board = no_board; events = a.events.name; edus = a.edus.name; parts = a.events.parts }
