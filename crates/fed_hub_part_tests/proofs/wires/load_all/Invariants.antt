use Rattle.std.proofs.Common.{◌≡◌}
use Rattle.fed_wires.specs.Seat.{IsReader}
use Rattle.fed_hub_part_tests.proofs.wires.load_all.Given as goal

abbrev pub invariant-loop : goal.invariant-loop
invariant-loop l = record { board : l.reader.board ≡ l.board.id; reader : IsReader l.reader }
