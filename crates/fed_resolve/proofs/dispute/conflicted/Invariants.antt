use Rattle.std.proofs.Common.{length, map, take}
use Rattle.fed_room_contract.specs.Entry.{seen}
use Rattle.fed_resolve.specs.KeptParts.{is_own_of_some}
use Rattle.fed_resolve.specs.Marks.{AreMarks}
use Rattle.fed_resolve.proofs.dispute.conflicted.Given as goal

-- what the states so far have
abbrev pub invariant-loop-place : goal.invariant-loop-place
invariant-loop-place l = AreMarks (length l.graph.stored) (is_own_of_some l.graph.stored l.steps.after (map seen l.disputed) (take l.place-index l.places)) l.marks.items
