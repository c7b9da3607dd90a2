use Rattle.fed_resolve.specs.ConflictParts.{places_of_state}
use Rattle.fed_resolve.specs.MaskParts.{AreFirstMasks}
use Rattle.fed_resolve.proofs.difference.state_chains.Given as goal

-- the auth events of the states so far
abbrev pub invariant-loop-index : goal.invariant-loop-index
invariant-loop-index l = AreFirstMasks l.graph.stored (places_of_state l.graph.stored) l.states l.index l.masks.items
