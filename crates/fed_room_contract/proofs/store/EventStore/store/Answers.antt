use Rattle.std.proofs.Common.{◌≡◌, ◌++◌, ◌∷◌, [], List, ℕ, Option, IfSome, map, take, drop, length, not, filter, if◌then◌else◌, vec_len, vec_capacity, ◌<◌, Bool, true, false, refl, sym, ap, ◌∙◌, subst}
use Rattle.std.proofs.Math.Seq.{take-append_seam}
use Rattle.fed_event.specs.Event.{Event}
use Rattle.fed_event.specs.EventId.{event_id_of}
use Rattle.fed_room_contract.specs.declared.graph.Stored.{Stored}
use Rattle.fed_room_contract.specs.Graph.{IsGraph, IsNext, id_of}
use Rattle.fed_room_contract.specs.GraphState.{GraphState}
use Rattle.fed_room_contract.specs.Room.{without, none_stored, is_accepted, names, extremities_of}
use Rattle.fed_room_contract.specs.LackParts.{tag_of_id, lack_of, AreRight}
use Rattle.fed_room_contract.specs.Store.{StoreState}
use Rattle.fed_room_contract.proofs.Apart.{apart-stored}
use Rattle.fed_room_contract.proofs.Graphs.{graph_grows}
use Rattle.fed_room_contract.proofs.LackLists.{right_but_one}
use Rattle.fed_room_contract.proofs.Extremities.{extremities_more}
use Rattle.fed_room_contract.proofs.store.EventStore.store.Goals as goal

led : (accepted : Bool) (ids fewer : List (List ℕ)) (id : List ℕ)
    → (if accepted then (if accepted then fewer else ids) ++ id ∷ [] else (if accepted then fewer else ids)) ≡ (if accepted then fewer ++ id ∷ [] else ids)
led true ids fewer id = refl
led false ids fewer id = refl

pub invariant_of-self : goal.invariant_of-self
invariant_of-self c =
    let inside = c.self.inside in
    let last : Stored = record { event = c.args.event; verdict = c.args.verdict } in
    let xs = inside.graph.stored in
    let stored : c.push_reserved-id.new.self.stored ≡ xs ++ last ∷ [] = ap (λ (g : GraphState). g.stored) c.push_reserved-id.ensures.stored in
    let id : c.as_str.result.now ≡ id_of last = c.as_str.ensures.text ∙ c.id.ensures ∙ ap event_id_of c.event.ensures.event in
    let waiting : c.forget.new.waiting.items ≡ without (id_of last) inside.waiting.items = c.forget.ensures.waiting ∙ ap (λ i. without i inside.waiting.items) id in
    let next : IsNext xs last = subst (λ (s : StoreState). IsNext s.room.stored last) (sym c.self.view_is) (record { new = c.requires.new; ready = c.requires.ready }) in
    let fewer : c.leave_followed.new.extremities.items ≡ (if is_accepted c.args.verdict then filter (λ (id : List ℕ). not (names c.args.event.event id)) inside.extremities.items else inside.extremities.items) =
    c.leave_followed.ensures.items ∙ ap (λ (event : Event). if is_accepted c.args.verdict then filter (λ (id : List ℕ). not (names event id)) inside.extremities.items else inside.extremities.items) c.event-2.ensures.event in
    let now : c.lead.new.extremities.items ≡ (if is_accepted c.args.verdict then (filter (λ (id : List ℕ). not (names c.args.event.event id)) inside.extremities.items) ++ id_of last ∷ [] else inside.extremities.items) =
    c.lead.ensures ∙ ap (λ (i : List ℕ). if is_accepted c.args.verdict then c.leave_followed.new.extremities.items ++ i ∷ [] else c.leave_followed.new.extremities.items) c.push_reserved-id.ensures.id
    ∙ ap (λ (ids : List (List ℕ)). if is_accepted c.args.verdict then ids ++ id_of last ∷ [] else ids) fewer
    ∙ led (is_accepted c.args.verdict) inside.extremities.items (filter (λ (id : List ℕ). not (names c.args.event.event id)) inside.extremities.items) (id_of last) in
    record {
      graph = subst IsGraph (sym stored) (graph_grows xs last c.self.invariant.graph next);
      apart = ap (λ (ys : List Stored). none_stored ys c.forget.new.waiting.items) stored ∙ ap (none_stored (xs ++ last ∷ [])) waiting ∙ apart-stored xs last inside.waiting.items c.self.invariant.apart;
      lacks = ap (λ n. take n (c.renew.new.lacks ++ drop (length c.renew.new.lacks) c.forget.new.lacks.items)) (sym (c.renew.auto.lacks ∙ c.deref_mut.ensures.len))
          ∙ take-append_seam c.renew.new.lacks _ ∙ c.renew.ensures ∙ ap (map (lack_of c.push_reserved-id.new.self.stored)) c.deref.ensures.value;
      extremities = extremities_more xs last inside.extremities.items c.lead.new.extremities.items c.self.invariant.graph next c.self.invariant.extremities now ∙ ap extremities_of (sym stored);
      spare = subst (λ (g : GraphState). IfSome g.reserved (λ _. vec_len c.lead.new.extremities < vec_capacity c.lead.new.extremities)) (sym c.push_reserved-id.ensures.stored) tt;
    }

pub renew-requires : goal.renew-requires
renew-requires c =
    let last : Stored = record { event = c.args.event; verdict = c.args.verdict } in
    let xs = c.self.inside.graph.stored in
    let stored : c.push_reserved-id.new.self.stored ≡ xs ++ last ∷ [] = ap (λ (g : GraphState). g.stored) c.push_reserved-id.ensures.stored in
    let tag : c.tag_of_id.result ≡ tag_of_id (id_of last) = c.tag_of_id.ensures ∙ ap tag_of_id (c.as_str-2.ensures.text ∙ c.push_reserved-id.ensures.id) in
    let lacks : c.deref_mut.result.now ≡ map (lack_of xs) c.forget.new.waiting.items = c.deref_mut.ensures.value ∙ c.forget.ensures.lacks (lack_of xs) c.self.invariant.lacks in
    let rights : map (lack_of c.push_reserved-id.new.self.stored) c.deref.result.now ≡ map (lack_of (xs ++ last ∷ [])) c.forget.new.waiting.items =
    ap (map (lack_of c.push_reserved-id.new.self.stored)) c.deref.ensures.value ∙ ap (λ ys. map (lack_of ys) c.forget.new.waiting.items) stored in
    subst (λ (t : ℕ). AreRight 0 t (map (lack_of c.push_reserved-id.new.self.stored) c.deref.result.now) c.deref_mut.result.now) (sym tag)
    (subst (λ (rs : List (Option ℕ)). AreRight 0 (tag_of_id (id_of last)) rs c.deref_mut.result.now) (sym rights)
    (subst (λ (ls : List (Option ℕ)). AreRight 0 (tag_of_id (id_of last)) (map (lack_of (xs ++ last ∷ [])) c.forget.new.waiting.items) ls) (sym lacks)
    (right_but_one xs last c.forget.new.waiting.items)))

pub returns-clause-graph : goal.returns-clause-graph
returns-clause-graph c =
    let last : Stored = record { event = c.args.event; verdict = c.args.verdict } in
    let xs = c.self.inside.graph.stored in
    let stored : c.push_reserved-id.new.self.stored ≡ xs ++ last ∷ [] = ap (λ (g : GraphState). g.stored) c.push_reserved-id.ensures.stored in
    let next : IsNext xs last = subst (λ (s : StoreState). IsNext s.room.stored last) (sym c.self.view_is) (record { new = c.requires.new; ready = c.requires.ready }) in
    subst IsGraph (sym stored) (graph_grows xs last c.self.invariant.graph next)
