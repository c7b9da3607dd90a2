use Rattle.std.proofs.Common.{◌≡◌, drop}
use Rattle.fed_dest.specs.List.{has_doubled}
use Rattle.fed_dest.proofs.list.has_doubled.Given as goal

-- what is left decides
abbrev pub invariant-loop-place : goal.invariant-loop-place
invariant-loop-place l = has_doubled l.names ≡ has_doubled (drop l.place l.names)
