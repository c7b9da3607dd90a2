use Rattle.std.proofs.Common.{◌≡◌, ◌<◌, All, length, map, take}
use Rattle.std.specs.List.{filter_map}
use Rattle.fed_room_contract.specs.Entry.{seen}
use Rattle.fed_resolve.specs.ConflictParts.{place_of_entry}
use Rattle.fed_resolve.proofs.conflict.places.Given as goal

-- the places of the entries so far
abbrev pub invariant-loop-entry : goal.invariant-loop-entry
invariant-loop-entry l = record {
  within : All (λ place. place < length l.graph.stored) l.places.items;
  so_far : l.places.items ≡ filter_map (place_of_entry l.graph.stored) (map seen (take l.entry-index l.entries));
}
