use Rattle.std.proofs.Common.{◌≡◌, take}
use Rattle.fed_sim.proofs.running.all_keys.Given as goal

-- the keys so far
abbrev pub invariant-loop-name : goal.invariant-loop-name
invariant-loop-name l = l.keys.items ≡ take l.name-index l.name-items
