use Rattle.std.proofs.Common.{◌≡◌}
use Rattle.std.specs.List.{list_all}
use Rattle.fed_event.specs.EventIds.{ids_left}
use Rattle.fed_room_contract.specs.Graph.{is_stored}
use Rattle.fed_room_contract.proofs.graph.Graph.contains_all.Given as goal

-- what is left decides
abbrev pub invariant-loop-id : goal.invariant-loop-id
invariant-loop-id l = list_all (is_stored l.self.stored) (ids_left l.id-iterator) ≡ list_all (is_stored l.self.stored) (ids_left l.initial.id-iterator)
