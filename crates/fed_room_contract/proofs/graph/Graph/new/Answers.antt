use Rattle.std.proofs.Common.{ℕ, List, Option, map, sym, ap, ◌∙◌, subst, nat_cmp}
use Rattle.std.specs.FinMap as finite
use Rattle.std.specs.List.{position}
use Rattle.std.specs.Cmp.Lexicographic.{slice_cmp}
use Rattle.fed_room_contract.specs.Places.{PlaceMap, place_in, place_at}
use Rattle.fed_room_contract.specs.declared.graph.Stored.{Stored}
use Rattle.fed_room_contract.specs.Graph.{IsAuthGraph, has_id, auth_links}
use Rattle.fed_room_contract.specs.LinkParts.{AreLinks}
use Rattle.fed_room_contract.proofs.AuthGraphs.{no_auth_graph}
use Rattle.fed_room_contract.proofs.graph.Graph.new.Goals as goal

pub invariant_of-result : goal.invariant_of-result
invariant_of-result c = record {
  graph = subst IsAuthGraph (sym c.new.ensures.items) no_auth_graph;
  entered = λ id. ap (λ (m : PlaceMap). place_at m id) c.new-2.ensures ∙ ap place_in (finite.get-empty (slice_cmp nat_cmp) id) ∙ ap (position (has_id id)) (sym c.new.ensures.items);
  spare = tt;
  named = tt;
  auths = subst (λ (xs : List Stored). AreLinks (map (auth_links xs) xs) c.new-3.result) (sym c.new.ensures.items) c.new-3.ensures;
  spare_auths = tt;
  once = λ id h. let none = finite.get-empty {X = Option ℕ} (slice_cmp nat_cmp) id in let same = ap (λ (m : PlaceMap). finite.get m id) c.new-2.ensures in absurd (cc);
}
