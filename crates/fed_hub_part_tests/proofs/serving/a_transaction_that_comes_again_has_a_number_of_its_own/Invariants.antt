use Rattle.std.specs.Prelude.{[]}
use Rattle.fed_keys.specs.StandIn.{stand_in_checks}
use Rattle.fed_hub_part_tests.proofs.serving.a_transaction_that_comes_again_has_a_number_of_its_own.Given as goal

abbrev pub ghosts-run_two : goal.ghosts-run_two
ghosts-run_two g a = record { known = []; rooms = []; checks = stand_in_checks; receiver = a.receiver.now; beginning = a.inbox.state }
