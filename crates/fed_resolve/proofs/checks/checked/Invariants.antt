use Rattle.std.proofs.Common.{◌≡◌, drop}
use Rattle.fed_resolve.specs.Checks.{checked}
use Rattle.fed_resolve.proofs.checks.checked.Given as goal

-- what is left decides
abbrev pub invariant-loop-place : goal.invariant-loop-place
invariant-loop-place l = checked l.graph.stored l.fn.state l.places ≡ checked l.graph.stored l.after (drop l.place-index l.places)
