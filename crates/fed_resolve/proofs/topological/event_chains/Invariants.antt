use Rattle.fed_resolve.specs.MaskParts.{AreFirstMasks, itself_alone}
use Rattle.fed_resolve.proofs.topological.event_chains.Given as goal

-- the auth events of the places so far
abbrev pub invariant-loop-index : goal.invariant-loop-index
invariant-loop-index l = AreFirstMasks l.graph.stored itself_alone l.places l.index l.masks.items
