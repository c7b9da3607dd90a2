use Rattle.std.proofs.Common.{◌≡◌}
use Rattle.fed_event.specs.EventIds.{ids_left}
use Rattle.fed_room_contract.specs.LackParts.{lack_among}
use Rattle.fed_room_contract.proofs.lacks.lack_among.Given as goal

-- what is left decides
abbrev pub invariant-loop-id : goal.invariant-loop-id
invariant-loop-id l = lack_among l.graph.stored (ids_left l.id-iterator) ≡ lack_among l.graph.stored (ids_left l.initial.id-iterator)
