use Rattle.std.proofs.Common.{◌≡◌, map, take}
use Rattle.fed_room_contract.specs.Entry.{seen}
use Rattle.fed_resolve.proofs.equality.have_same_parts.Given as goal

-- the entries so far are equal
abbrev pub invariant-loop-index : goal.invariant-loop-index
invariant-loop-index l = map seen (take l.index l.entries) ≡ map seen (take l.index l.others)
