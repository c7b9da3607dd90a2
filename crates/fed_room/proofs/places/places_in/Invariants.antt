use Rattle.std.proofs.Common.{◌≡◌, ◌++◌}
use Rattle.std.specs.List.{filter_map}
use Rattle.fed_event.specs.EventIds.{ids_left}
use Rattle.fed_resolve.specs.Chain.{place_of}
use Rattle.fed_room.proofs.places.places_in.Given as goal

-- the places so far, and those of the ids that are left
abbrev pub invariant-loop-id : goal.invariant-loop-id
invariant-loop-id l = l.places.items ++ filter_map (place_of l.graph.stored) (ids_left l.id-iterator) ≡ filter_map (place_of l.graph.stored) (ids_left l.fn.ids)
