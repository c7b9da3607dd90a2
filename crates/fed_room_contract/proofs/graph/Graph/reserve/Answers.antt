use Rattle.std.proofs.Common.{◌≡◌, ◌<◌, ◌≤◌, ◌∙◌, ℕ, List, Option, None, Some, IsSome, IfSome, map, vec_len, vec_capacity, refl, sym, ap, subst, arith}
use Rattle.std.specs.FinMap as finite
use Rattle.std.specs.List.{position}
use Rattle.fed_room_contract.specs.Places.{PlaceMap, place_at, with_room_in_place_of}
use Rattle.fed_room_contract.specs.declared.graph.Graph.TheInside.{Inside}
use Rattle.fed_room_contract.specs.declared.graph.Stored.{Stored}
use Rattle.fed_room_contract.specs.declared.links.Links.{Links}
use Rattle.fed_room_contract.specs.Graph.{IsAuthGraph, has_id, auth_links}
use Rattle.fed_room_contract.specs.LinkParts.{AreLinks, HasRoomFor}
use Rattle.fed_room_contract.specs.GraphParts.{HoldsTogether}
use Rattle.fed_room_contract.proofs.PlaceMaps.{place_at-moved, moved_is_made, moved_once}
use Rattle.fed_room_contract.proofs.graph.Graph.reserve.Goals as goal

if_some_more : (o : Option (List ℕ)) (P Q : List ℕ → Type 0) → ((x : List ℕ) → P x → Q x) → IfSome o P → IfSome o Q
if_some_more None P Q f p = tt
if_some_more (Some x) P Q f p = f x p

-- with more room for events
abbrev HasMore : Links → Links → Type 0
HasMore before after = ((lists : List (List ℕ)) → AreLinks lists before → AreLinks lists after) × ((n : ℕ) → HasRoomFor n before → HasRoomFor n after)

no_more : (links : Links) → HasMore links links
no_more links = (λ lists h. h, λ n h. h)

more_room : (g h : Inside) → h.events.items ≡ g.events.items → vec_len h.events ≡ vec_len g.events → vec_capacity g.events ≤ vec_capacity h.events → h.places ≡ g.places → h.reserved ≡ g.reserved
    → HasMore g.auths h.auths → HoldsTogether g → HoldsTogether h
more_room g h items len capacity places reserved auths holds = record {
  graph = subst IsAuthGraph (sym items) holds.graph;
  entered = λ id. ap (λ (m : PlaceMap). place_at m id) places ∙ holds.entered id ∙ ap (position (has_id id)) (sym items);
  spare = subst (λ o. IfSome o (λ _. vec_len h.events < vec_capacity h.events)) (sym reserved)
      (if_some_more g.reserved (λ _. vec_len g.events < vec_capacity g.events) (λ _. vec_len h.events < vec_capacity h.events) (λ _ t. omega arith) holds.spare);
  named = subst (λ o. IfSome o (λ id. IsSome (finite.get h.places id))) (sym reserved) (subst (λ (m : PlaceMap). IfSome g.reserved (λ id. IsSome (finite.get m id))) (sym places) holds.named);
  auths = subst (λ (es : List Stored). AreLinks (map (auth_links es) es) h.auths) (sym items) (auths.0 (map (auth_links g.events.items) g.events.items) holds.auths);
  spare_auths = subst (λ o. IfSome o (λ _. HasRoomFor 10 h.auths)) (sym reserved) (if_some_more g.reserved (λ _. HasRoomFor 10 g.auths) (λ _. HasRoomFor 10 h.auths) (λ _ t. auths.1 10 t) holds.spare_auths);
  once = λ id t. reserved ∙ holds.once id (ap (λ (m : PlaceMap). finite.get m id) (sym places) ∙ t);
}

pub invariant_of-self-in_err-reserve-2 : goal.invariant_of-self-in_err-reserve-2
invariant_of-self-in_err-reserve-2 c =
    more_room c.self.inside _ c.reserve.ensures.items c.reserve.ensures.len c.reserve.ensures.capacity refl refl (c.reserve-2.ensures.same, c.reserve-2.ensures.room) c.self.invariant

pub invariant_of-self-in_err-reserved : goal.invariant_of-self-in_err-reserved
invariant_of-self-in_err-reserved c =
    more_room c.self.inside _ c.reserve.ensures.items c.reserve.ensures.len c.reserve.ensures.capacity refl refl (c.reserve-2.ensures.same, c.reserve-2.ensures.room) c.self.invariant

pub invariant_of-self-in_err-make_room : goal.invariant_of-self-in_err-make_room
invariant_of-self-in_err-make_room c =
    more_room c.self.inside _ c.reserve.ensures.items c.reserve.ensures.len c.reserve.ensures.capacity c.in_err-make_room.ensures.err refl (c.reserve-2.ensures.same, c.reserve-2.ensures.room) c.self.invariant

pub invariant_of-self : goal.invariant_of-self
invariant_of-self c =
    more_room c.self.inside _ c.reserve.ensures.items c.reserve.ensures.len c.reserve.ensures.capacity refl refl (no_more _) c.self.invariant

pub invariant_of-self-2 : goal.invariant_of-self-2
invariant_of-self-2 c =
    let old = c.self.inside in
    let id = c.args.id.now in
    let copied : c.in_ok-reserved.reserved ≡ id = c.in_ok-reserved.ensures in
    let places : c.make_room.new.self ≡ with_room_in_place_of old.places old.reserved id =
    c.in_ok-make_room.ensures.ok ∙ ap (λ (o : Option (List ℕ)). with_room_in_place_of old.places o id) c.as_ref.ensures.value in
    record {
      graph = subst IsAuthGraph (sym c.reserve.ensures.items) c.self.invariant.graph;
      entered = λ q. ap (λ (m : PlaceMap). place_at m q) places ∙ place_at-moved old.places old.reserved id q ∙ c.self.invariant.entered q ∙ ap (position (has_id q)) (sym c.reserve.ensures.items);
      spare = let h = c.in_ok-reserve.ensures.ok in omega arith;
      named = subst (λ q. IsSome (finite.get c.make_room.new.self q)) (sym copied) (subst (λ (m : PlaceMap). IsSome (finite.get m id)) (sym places) (moved_is_made old.places old.reserved id));
      auths = subst (λ (es : List Stored). AreLinks (map (auth_links es) es) c.reserve-2.new.self) (sym c.reserve.ensures.items) (c.reserve-2.ensures.same (map (auth_links old.events.items) old.events.items) c.self.invariant.auths);
      spare_auths = c.in_ok-reserve-2.ensures.ok;
      once = λ q t. ap Some (copied ∙ sym (moved_once old.places old.reserved id c.self.invariant.once q (ap (λ (m : PlaceMap). finite.get m q) (sym places) ∙ t)));
    }
