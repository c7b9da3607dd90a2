use Rattle.std.specs.Prelude.{[]}
use Rattle.fed_keys.specs.StandIn.{stand_in_checks}
use Rattle.fed_hub_part_tests.proofs.serving.a_transaction_is_served_and_taken_once.Given as goal

abbrev pub ghosts-run : goal.ghosts-run
ghosts-run g a = record { known = []; rooms = []; checks = stand_in_checks; receiver = a.receiver.now; beginning = a.inbox.state }
