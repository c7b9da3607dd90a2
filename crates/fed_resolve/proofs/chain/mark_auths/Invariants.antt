use Rattle.std.proofs.Common.{length, take}
use Rattle.fed_resolve.specs.Marks.{AreMarks}
use Rattle.fed_resolve.specs.ChainParts.{or_among}
use Rattle.fed_resolve.proofs.chain.mark_auths.Given as goal

-- the auth events so far
abbrev pub invariant-loop-auth : goal.invariant-loop-auth
invariant-loop-auth l = AreMarks (length l.graph.stored) (or_among (take l.auth-index l.auth-items) l.fn.marks) l.marks
