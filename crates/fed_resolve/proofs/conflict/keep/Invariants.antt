use Rattle.std.proofs.Common.{map, take}
use Rattle.fed_room_contract.specs.Entry.{seen}
use Rattle.fed_resolve.specs.Conflict.{unconflicted}
use Rattle.fed_resolve.specs.ConflictParts.{AreKept}
use Rattle.fed_resolve.proofs.conflict.keep.Given as goal

-- what the states agree on at the keys so far
abbrev pub invariant-loop-entry : goal.invariant-loop-entry
invariant-loop-entry l = AreKept (unconflicted l.states) (map seen (take l.entry-index l.entries)) l.state
