use Rattle.std.specs.Prelude.{[], ◌∷◌}
use Rattle.fed_keys.specs.StandIn.{stand_in_checks}
use Rattle.fed_hub_part_tests.proofs.rooms.turns_are_spent.Given as goal

abbrev pub ghosts-run_lent : goal.ghosts-run_lent
ghosts-run_lent g a = record {
  known = [];
  rooms = a.end.wire ∷ [];
  checks = stand_in_checks;
  receiver = record { own = []; servers = []; rooms = [] };
  beginning = record { own = []; rooms = []; logs = [] };
}
