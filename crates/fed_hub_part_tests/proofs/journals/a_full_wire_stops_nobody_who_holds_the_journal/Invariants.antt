use Rattle.fed_wires.specs.Board.{no_board}
use Rattle.fed_hub_state.specs.Spreading.{wires_of}
use Rattle.fed_hub_part_tests.proofs.journals.a_full_wire_stops_nobody_who_holds_the_journal.Given as goal

abbrev pub ghosts-fill : goal.ghosts-fill
ghosts-fill g a = record { wires = wires_of a.ends.items; own = 0; board = no_board; events = a.events.name; edus = a.edus.name; parts = a.events.parts }
