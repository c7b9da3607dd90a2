use Rattle.std.proofs.Common.{map}
use Rattle.fed_sim.proofs.ScriptPlaces.{Gathered}
use Rattle.fed_sim.proofs.script.places.set_of.Given as goal

-- each server once, of the names so far
abbrev pub invariant-loop-name : goal.invariant-loop-name
invariant-loop-name l = Gathered l.servers (map (λ x. x.now) l.yielded) l.places.items
