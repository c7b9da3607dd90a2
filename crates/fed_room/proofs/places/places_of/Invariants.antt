use Rattle.std.proofs.Common.{◌≡◌, ◌++◌, drop}
use Rattle.std.specs.List.{filter_map}
use Rattle.fed_resolve.specs.Chain.{place_of}
use Rattle.fed_room.proofs.places.places_of.Given as goal

-- the places so far, and those of the ids that are left
abbrev pub invariant-loop-id : goal.invariant-loop-id
invariant-loop-id l = l.places.items ++ filter_map (place_of l.graph.stored) (drop l.id-index l.ids) ≡ filter_map (place_of l.graph.stored) l.ids
