use Rattle.std.proofs.Common.{◌≡◌, drop}
use Rattle.fed_sim.specs.Setup.{are_users}
use Rattle.fed_sim.proofs.setup_check.are_users.Given as goal

-- what is left decides
abbrev pub invariant-loop-place : goal.invariant-loop-place
invariant-loop-place l = are_users l.users ≡ are_users (drop l.place l.users)
