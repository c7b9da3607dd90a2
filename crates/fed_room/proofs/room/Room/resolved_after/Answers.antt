use Rattle.std.proofs.Common.{◌≡◌, List, true, sym, ap, ◌∙◌, subst}
use Rattle.std.proofs.lemmas.Result.{IfOk-weaker}
use Rattle.std.specs.List.{filter_map, list_all}
use Rattle.fed_room_contract.specs.Graph.{IsGraph, is_stored}
use Rattle.fed_room_contract.specs.GraphState.{GraphState}
use Rattle.fed_room_contract.specs.Lawful.{NamesStored}
use Rattle.fed_room_contract.specs.State.{StateMap}
use Rattle.fed_resolve.specs.Chain.{place_of}
use Rattle.fed_resolve.specs.Resolution.{resolved_of}
use Rattle.fed_room.specs.Room.{RoomValue}
use Rattle.fed_room.specs.States.{resolved_after, states_after}
use Rattle.fed_room.specs.StatesParts.{at_places, IsKeptIn}
use Rattle.fed_room.specs.RoomLawful.{resolved-named}
use Rattle.fed_room.proofs.AtPlaces.{places-kept, resolved-at}
use Rattle.fed_room.proofs.room.Room.resolved_after.Goals as goal

pub resolved_at-requires : goal.resolved_at-requires
resolved_at-requires c =
    let ids = c.args.ids.now in
    places-kept c.self.inside.store.room.stored c.self.inside.states.after c.deref.result.now ids c.self.invariant.after
    (c.deref.ensures.value ∙ c.in_ok-places.ensures ∙ ap (λ (g : GraphState). filter_map (place_of g.stored) ids) c.graph-graph.ensures)

pub returns-clause-state : goal.returns-clause-state
returns-clause-state c =
    let stored = c.self.inside.store.room.stored in
    let kept = c.self.inside.states.after in
    let ids = c.args.ids.now in
    let graph : c.graph-graph.result.now.stored ≡ stored = ap (λ (g : GraphState). g.stored) c.graph-graph.ensures in
    let places : c.deref.result.now ≡ filter_map (place_of stored) ids = c.deref.ensures.value ∙ c.in_ok-places.ensures ∙ ap (λ (g : GraphState). filter_map (place_of g.stored) ids) c.graph-graph.ensures in
    let all : list_all (is_stored stored) ids ≡ true = ap (λ (r : RoomValue). list_all (is_stored r.store.room.stored) ids) c.self.view_is ∙ c.requires in
    IfOk-weaker c.resolved_at.result _ _ (λ r same.
    same ∙ (λ i. resolved_of (graph i) (at_places kept (places i))) ∙ resolved-at stored kept c.self.invariant.after ids all ∙ ap (λ (r : RoomValue). resolved_after r.store.room.stored ids) c.self.view_is) c.resolved_at.ensures.state

pub returns-clause-named : goal.returns-clause-named
returns-clause-named c =
    let stored = c.args.self.now.store.room.stored in
    let ids = c.args.ids.now in
    let graph : IsGraph stored = subst (λ (r : RoomValue). IsGraph r.store.room.stored) c.self.view_is c.self.invariant.graph in
    IfOk-weaker c.resolved_at.result _ _ (λ r same. subst (NamesStored stored) (sym same) (resolved-named stored ids graph)) (returns-clause-state c)

pub returns-clause-kept : goal.returns-clause-kept
returns-clause-kept c =
    let same = c.self.invariant.after ∙ ap (λ (r : RoomValue). states_after r.store.room.stored) c.self.view_is in
    IfOk-weaker c.resolved_at.result _ _ (λ r kept. subst (λ (states : List StateMap). IsKeptIn states r) same kept) c.resolved_at.ensures.kept
