use Rattle.fed_resolve.specs.ChainParts.{AreClosedFrom}
use Rattle.fed_resolve.proofs.chain.mark_on.Given as goal

-- the places down to here are done
abbrev pub invariant-loop-place : goal.invariant-loop-place
invariant-loop-place l = AreClosedFrom l.graph.stored l.place l.fn.marks l.marks
