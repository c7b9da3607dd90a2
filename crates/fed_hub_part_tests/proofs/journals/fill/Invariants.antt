use Rattle.std.proofs.Common.{◌<◌}
use Rattle.fed_hub_part_tests.proofs.journals.fill.Given as goal

abbrev pub invariant-loop-number : goal.invariant-loop-number
invariant-loop-number g l = 0 < l.client.parts
