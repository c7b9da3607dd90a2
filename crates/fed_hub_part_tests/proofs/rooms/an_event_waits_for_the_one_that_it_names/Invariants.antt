use Rattle.std.specs.Prelude.{[], ◌∷◌}
use Rattle.fed_keys.specs.StandIn.{stand_in_checks}
use Rattle.fed_hub_part_tests.proofs.rooms.an_event_waits_for_the_one_that_it_names.Given as goal

abbrev pub ghosts-run_locked : goal.ghosts-run_locked
ghosts-run_locked g a = record {
  known = [];
  rooms = a.end.wire ∷ [];
  checks = stand_in_checks;
  receiver = record { own = []; servers = []; rooms = [] };
  beginning = record { own = []; rooms = []; logs = [] };
}
