use Rattle.std.proofs.Common.{◌≡◌}
use Rattle.fed_event.specs.EventIds.{ids_left}
use Rattle.fed_room.specs.Ids.{are_among}
use Rattle.fed_room.proofs.ids.are_among.Given as goal

-- what is left decides
abbrev pub invariant-loop-id : goal.invariant-loop-id
invariant-loop-id l = are_among (ids_left l.id-iterator) l.others ≡ are_among (ids_left l.initial.id-iterator) l.others
