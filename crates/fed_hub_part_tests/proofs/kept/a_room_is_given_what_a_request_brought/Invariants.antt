use Rattle.std.specs.Prelude.{[], ◌∷◌}
use Rattle.fed_keys.specs.StandIn.{stand_in_checks}
use Rattle.fed_hub_part_tests.proofs.kept.a_room_is_given_what_a_request_brought.Given as goal

abbrev pub ghosts-is_nothing_brought : goal.ghosts-is_nothing_brought
ghosts-is_nothing_brought g a = record {
  known = [];
  rooms = a.end.wire ∷ [];
  checks = stand_in_checks;
  receiver = record { own = []; servers = []; rooms = [] };
  beginning = record { own = []; rooms = []; logs = [] };
}
