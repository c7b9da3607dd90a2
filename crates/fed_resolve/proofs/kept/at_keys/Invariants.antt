use Rattle.std.proofs.Common.{map, take}
use Rattle.fed_room_contract.specs.Entry.{seen}
use Rattle.fed_resolve.specs.ConflictParts.{AreKept}
use Rattle.fed_resolve.proofs.kept.at_keys.Given as goal

-- what the state has at the keys so far
abbrev pub invariant-loop-entry : goal.invariant-loop-entry
invariant-loop-entry l = AreKept l.state (map seen (take l.entry-index l.entry-items)) l.few
