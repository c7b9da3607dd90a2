use Rattle.std.proofs.Common.{◌≡◌, ◌+◌, ◌≤◌, ◌++◌, length, vec_len, vec_capacity}
use Rattle.std.specs.List.{filter_map}
use Rattle.fed_event.specs.EventIds.{ids_left}
use Rattle.fed_room_contract.specs.Places.{place_at}
use Rattle.fed_room_contract.proofs.links.Links.add.Given as goal

-- the places so far and those of the ids that are left are those before and those of all ids
abbrev pub invariant-loop-id : goal.invariant-loop-id
invariant-loop-id l = record {
  places : l.self.places.items ++ filter_map (place_at l.places) (ids_left l.id-iterator) ≡ l.initial.self.places.items ++ filter_map (place_at l.places) (ids_left l.initial.id-iterator);
  starts : l.self.starts.items ≡ l.initial.self.starts.items;
  room : vec_len l.self.places + length (ids_left l.id-iterator) ≤ vec_capacity l.self.places;
}
