use Rattle.std.proofs.Common.{length, take}
use Rattle.fed_resolve.specs.Marks.{AreMarks}
use Rattle.fed_resolve.specs.ChainParts.{or_auths}
use Rattle.fed_resolve.proofs.chain.mark_auths_of.Given as goal

-- the auth events of the places so far
abbrev pub invariant-loop-place : goal.invariant-loop-place
invariant-loop-place l = AreMarks (length l.graph.stored) (or_auths l.graph.stored (take l.place-index l.places) l.fn.marks) l.marks
