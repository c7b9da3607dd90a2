use Rattle.std.proofs.Common.{map, take}
use Rattle.fed_room_contract.specs.Entry.{seen}
use Rattle.fed_resolve.specs.KeptParts.{IsWithout}
use Rattle.fed_resolve.proofs.kept.without.Given as goal

-- those so far are taken away
abbrev pub invariant-loop-entry : goal.invariant-loop-entry
invariant-loop-entry l = IsWithout l.fn.state (map seen (take l.entry-index l.entries)) l.left
