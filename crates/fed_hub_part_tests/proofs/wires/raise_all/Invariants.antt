use Rattle.std.proofs.Common.{◌≡◌}
use Rattle.fed_wires.specs.Seat.{IsOwner}
use Rattle.fed_hub_part_tests.proofs.wires.raise_all.Given as goal

abbrev pub invariant-loop-count : goal.invariant-loop-count
invariant-loop-count l = record { board : l.owner.board ≡ l.board.id; owner : IsOwner l.owner }
