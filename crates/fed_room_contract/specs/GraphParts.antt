-- The graph that the fields of a `Graph` stand for, and how they hold together.
use Rattle.std.specs.Prelude.{◌≡◌, ◌<◌, ℕ, List, Some, None, IsSome, IfSome, map, position, vec_len, vec_capacity}
use Rattle.std.specs.FinMap as finite
use Rattle.fed_room_contract.specs.declared.graph.Graph.TheInside.{Inside}
use Rattle.fed_room_contract.specs.Places.{place_at}
use Rattle.fed_room_contract.specs.Graph.{has_id, IsAuthGraph, auth_links}
use Rattle.fed_room_contract.specs.LinkParts.{AreLinks, HasRoomFor}
use Rattle.fed_room_contract.specs.GraphState.{GraphState}

abbrev pub graph_of : Inside → GraphState
graph_of g = record { stored = g.events.items; reserved = g.reserved }

pub record HoldsTogether (g : Inside) : Type 0 where
  pub graph : IsAuthGraph g.events.items
  pub entered : (id : List ℕ) → place_at g.places id ≡ position (has_id id) g.events.items
  pub spare : IfSome g.reserved (λ _. vec_len g.events < vec_capacity g.events)
  pub named : IfSome g.reserved (λ id. IsSome (finite.get g.places id))
  pub auths : AreLinks (map (auth_links g.events.items) g.events.items) g.auths
  pub spare_auths : IfSome g.reserved (λ _. HasRoomFor 10 g.auths)
  pub once : (id : List ℕ) → finite.get g.places id ≡ Some None → g.reserved ≡ Some id
