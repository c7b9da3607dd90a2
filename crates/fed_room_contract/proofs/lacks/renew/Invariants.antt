use Rattle.std.proofs.Common.{map}
use Rattle.fed_room_contract.specs.LackParts.{lack_of, AreRight}
use Rattle.fed_room_contract.proofs.lacks.renew.Given as goal

-- those before the index are right
abbrev pub invariant-loop-place : goal.invariant-loop-place
invariant-loop-place l = AreRight l.place l.tag (map (lack_of l.graph.stored) l.waiting) l.lacks
