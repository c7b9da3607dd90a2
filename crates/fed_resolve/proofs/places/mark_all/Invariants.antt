use Rattle.std.proofs.Common.{length, take}
use Rattle.fed_resolve.specs.ChainParts.{or_among}
use Rattle.fed_resolve.specs.Marks.{AreMarks}
use Rattle.fed_resolve.proofs.places.mark_all.Given as goal

-- the places so far
abbrev pub invariant-loop-place : goal.invariant-loop-place
invariant-loop-place l = AreMarks (length l.fn.marks) (or_among (take l.place-index l.places) l.fn.marks) l.marks
