use Rattle.std.specs.Prelude.{[]}
use Rattle.fed_keys.specs.Trusting.{trusting_checks}
use Rattle.fed_hub_part_tests.proofs.serving.a_transaction_that_comes_again_is_not_judged.Given as goal

abbrev pub ghosts-run_again : goal.ghosts-run_again
ghosts-run_again g a = record { known = []; rooms = []; checks = trusting_checks; receiver = a.receiver.now; beginning = a.inbox.state }
