-- The room that the fields of an `EventStore` stand for, and how they hold together.
use Rattle.std.specs.Prelude.{◌≡◌, ◌<◌, true, IfSome, map, vec_len, vec_capacity}
use Rattle.fed_room_contract.specs.declared.store.EventStore.TheInside.{Inside}
use Rattle.fed_room_contract.specs.Graph.{IsGraph}
use Rattle.fed_room_contract.specs.Room.{none_stored, extremities_of}
use Rattle.fed_room_contract.specs.LackParts.{lack_of}
use Rattle.fed_room_contract.specs.Store.{StoreState}

abbrev pub store_of : Inside → StoreState
store_of s = record {
  room = record { stored = s.graph.stored; waiting = s.waiting.items; dropped = s.dropped };
  reserved = s.graph.reserved;
}

pub record IsStore (s : Inside) : Type 0 where
  pub graph : IsGraph s.graph.stored
  pub apart : none_stored s.graph.stored s.waiting.items ≡ true
  pub lacks : s.lacks.items ≡ map (lack_of s.graph.stored) s.waiting.items
  pub extremities : s.extremities.items ≡ extremities_of s.graph.stored
  pub spare : IfSome s.graph.reserved (λ _. vec_len s.extremities < vec_capacity s.extremities)
