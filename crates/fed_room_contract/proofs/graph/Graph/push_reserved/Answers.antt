use Rattle.std.proofs.Common.{◌≡◌, ◌∙◌, ℕ, List, ◌++◌, ◌∷◌, [], Option, None, Some, IsSome, IfSome, vec_len, vec_capacity, ◌<◌, Bool, true, false, cond, map, nat_cmp, length, arith, is_ok, if◌then◌else◌, refl, sym, ap, subst}
use Rattle.std.specs.FinMap as finite
use Rattle.std.specs.List.{position, filter_map}
use Rattle.std.specs.Ordering.{eq_by_cmp}
use Rattle.std.specs.Cmp.Lexicographic.{slice_cmp, nat_list_cmp_total}
use Rattle.fed_event.specs.Event.{Event}
use Rattle.fed_room_contract.proofs.PlaceMaps.{itself}
use Rattle.fed_event.specs.EventId.{event_id_of}
use Rattle.fed_event.specs.Fields.{auth_events_of}
use Rattle.fed_room_contract.specs.Places.{PlaceMap, place_at}
use Rattle.fed_room_contract.specs.declared.graph.Stored.{Stored}
use Rattle.fed_room_contract.specs.Graph.{IsAuthGraph, IsAuthNext, has_id, id_of, auth_links}
use Rattle.fed_room_contract.specs.LinkParts.{AreLinks, HasRoomFor}
use Rattle.fed_room_contract.specs.GraphState.{GraphState}
use Rattle.fed_room_contract.proofs.GraphLinks.{auths-more}
use Rattle.fed_room_contract.proofs.Graphs.{entered_more}
use Rattle.fed_room_contract.proofs.AuthGraphs.{auth_graph_grows}
use Rattle.fed_room_contract.proofs.graph.Graph.push_reserved.Goals as goal

-- no room is left beside the id that is entered
entered_once : (places : PlaceMap) (id q : List ℕ) (n : ℕ) (reserved : Option (List ℕ)) → reserved ≡ Some id → ((r : List ℕ) → finite.get places r ≡ Some None → reserved ≡ Some r)
    → finite.get (finite.insert places id (Some n)) q ≡ Some None → ⊥
entered_once places id q n reserved only once h = by (eq_by_cmp (slice_cmp nat_cmp) q id) refl (sym (finite.get-insert nat_list_cmp_total places id (Some n) q) ∙ h)
  where
    by : (b : Bool) → eq_by_cmp (slice_cmp nat_cmp) q id ≡ b → cond b (Some (Some n)) (finite.get places q) ≡ Some None → ⊥
    by true t h = absurd (cc)
    by false t h = let other = once q h in let same : q ≡ id = cc in let here = itself id in let tie = ap (λ i. eq_by_cmp (slice_cmp nat_cmp) i id) same in absurd (cc)

-- there is room, as there was room for the event
room_there : (o : Option (List ℕ)) (id : List ℕ) (P : Type 0) → o ≡ Some id → IfSome o (λ _. P) → P
room_there None id P e h = absurd (cc)
room_there (Some x) id P e h = h

pub add_auths-requires : goal.add_auths-requires
add_auths-requires c =
    room_there c.self.inside.reserved (event_id_of c.args.event.event) (HasRoomFor 10 c.self.inside.auths) (ap (λ (g : GraphState). g.reserved) c.self.view_is ∙ c.requires.reserved) c.self.invariant.spare_auths

pub invariant_of-self : goal.invariant_of-self
invariant_of-self c =
    let old = c.self.inside in
    let last : Stored = record { event = c.args.event; verdict = c.args.verdict } in
    let xs = old.events.items in
    let same : xs ≡ c.args.self.now.stored = ap (λ (g : GraphState). g.stored) c.self.view_is in
    let items : c.push.new.self.items ≡ xs ++ last ∷ [] = c.push.ensures.items ∙ ap (λ r. if is_ok r then xs ++ last ∷ [] else xs) c.unwrap.ensures in
    let next : IsAuthNext xs last = subst (λ (ys : List Stored). IsAuthNext ys last) (sym same) (record { new = c.requires.new; auths = c.requires.auths }) in
    let id : c.as_str.result.now ≡ id_of last = c.as_str.ensures.text ∙ c.id.ensures ∙ ap event_id_of c.event-2.ensures.event in
    let len : c.len-place.result ≡ length xs = let fact = old.events.ok.0 in let counted = c.len-place.ensures in omega arith in
    let places : c.enter.new.self ≡ finite.insert old.places (id_of last) (Some (length xs)) =
    c.enter.ensures ∙ ap (λ k. finite.insert old.places k (Some c.len-place.result)) id ∙ ap (λ (n : ℕ). finite.insert old.places (id_of last) (Some n)) len in
    let taken : (P : Type 0) → IfSome c.take.new.self (λ _. P) = λ P. subst (λ (o : Option (List ℕ)). IfSome o (λ _. P)) (sym c.take.ensures.after) tt in
    let event : c.event.result.now ≡ last.event.event = c.event.ensures.event in
    record {
      graph = subst IsAuthGraph (sym items) (auth_graph_grows xs last c.self.invariant.graph next);
      entered = λ q. ap (λ (m : PlaceMap). place_at m q) places ∙ entered_more old.places xs last c.self.invariant.entered next.new q ∙ ap (position (has_id q)) (sym items);
      spare = subst (λ (o : Option (List ℕ)). IfSome o (λ _. vec_len c.push.new.self < vec_capacity c.push.new.self)) (sym c.take.ensures.after) tt;
      named = subst (λ (o : Option (List ℕ)). IfSome o (λ id. IsSome (finite.get c.enter.new.self id))) (sym c.take.ensures.after) tt;
      auths =
          subst (λ (es : List Stored). AreLinks (map (auth_links es) es) c.add_auths.new.auths) (sym items)
          (subst (λ (ls : List (List ℕ)). AreLinks ls c.add_auths.new.auths) (auths-more xs last old.places c.self.invariant.graph next c.self.invariant.entered)
          (subst (λ (e : Event). AreLinks (map (auth_links xs) xs ++ filter_map (place_at old.places) (auth_events_of e) ∷ []) c.add_auths.new.auths) event (c.add_auths.ensures (map (auth_links xs) xs) c.self.invariant.auths)));
      spare_auths = taken (HasRoomFor 10 c.add_auths.new.auths);
      once = λ q h. absurd (entered_once old.places (id_of last) q (length xs) old.reserved (ap (λ (g : GraphState). g.reserved) c.self.view_is ∙ c.requires.reserved) c.self.invariant.once (ap (λ (m : PlaceMap). finite.get m q) (sym places) ∙ h));
    }
