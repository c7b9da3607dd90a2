use Rattle.std.proofs.Common.{◌≡◌, take}
use Rattle.fed_sim.proofs.setup_check.list_of.Given as goal

-- the copies so far
abbrev pub invariant-loop-name : goal.invariant-loop-name
invariant-loop-name l = l.copies.items ≡ take l.name-index l.names
