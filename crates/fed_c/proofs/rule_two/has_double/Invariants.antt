use Rattle.std.proofs.Common.{◌≡◌, length}
use Rattle.fed_auth.specs.AuthState.{has_double}
use Rattle.fed_c.proofs.rule_two.has_double.Given as goal

-- what is left decides
abbrev pub invariant-loop-one : goal.invariant-loop-one
invariant-loop-one l = has_double l.auth ≡ has_double l.left

abbrev pub decreases-loop-one : goal.decreases-loop-one
decreases-loop-one l = length l.left
