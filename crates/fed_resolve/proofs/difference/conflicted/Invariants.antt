use Rattle.std.proofs.Common.{length, take}
use Rattle.fed_resolve.specs.Marks.{AreMarks}
use Rattle.fed_resolve.specs.ConflictParts.{is_disputed_in}
use Rattle.fed_resolve.proofs.difference.conflicted.Given as goal

-- what the states so far have where not all agree
abbrev pub invariant-loop-state : goal.invariant-loop-state
invariant-loop-state l = AreMarks (length l.graph.stored) (is_disputed_in l.graph.stored l.states (take l.state-index l.states)) l.marks.items
