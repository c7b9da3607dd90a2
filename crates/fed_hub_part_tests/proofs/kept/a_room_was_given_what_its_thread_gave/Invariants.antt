use Rattle.std.specs.Prelude.{[], ◌∷◌}
use Rattle.fed_keys.specs.StandIn.{stand_in_checks}
use Rattle.fed_hub_part_tests.proofs.kept.a_room_was_given_what_its_thread_gave.Given as goal

abbrev pub ghosts-is_nothing_given : goal.ghosts-is_nothing_given
ghosts-is_nothing_given g a = record {
  known = [];
  rooms = a.end.wire ∷ [];
  checks = stand_in_checks;
  receiver = record { own = []; servers = []; rooms = [] };
  beginning = record { own = []; rooms = []; logs = [] };
}
