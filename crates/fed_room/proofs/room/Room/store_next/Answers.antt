use Rattle.std.proofs.Common.{◌≡◌, ◌∷◌, ◌++◌, [], true, false, Some, sym, ap, ◌∙◌, subst}
use Rattle.fed_room_contract.specs.declared.graph.Stored.{Stored}
use Rattle.fed_room_contract.specs.Graph.{IsGraph, is_stored, is_ready}
use Rattle.fed_room_contract.specs.Room.{event_id}
use Rattle.fed_room_contract.specs.Store.{StoreState}
use Rattle.fed_room.specs.Room.{RoomValue}
use Rattle.fed_room.specs.States.{state_with, state_before, states_after}
use Rattle.fed_room.proofs.Kept.{graph-more, kept-more}
use Rattle.fed_room.proofs.room.Room.store_next.Goals as goal

pub invariant_of-self : goal.invariant_of-self
invariant_of-self c =
    let events = c.self.inside.store.room.stored in
    let kept = c.self.inside.states.after in
    let event = c.args.event in
    let last : Stored = record { event = event; verdict = c.args.verdict } in
    let new : is_stored events (event_id event) ≡ false = ap (λ (r : RoomValue). is_stored r.store.room.stored (event_id event)) c.self.view_is ∙ c.requires.new in
    let ready : is_ready events event.event ≡ true = ap (λ (r : RoomValue). is_ready r.store.room.stored event.event) c.self.view_is ∙ c.requires.ready in
    let next : c.self.inside.states.next ≡ Some (state_with (state_before events event.event) last) =
    ap (λ (r : RoomValue). r.next) c.self.view_is ∙ c.requires.next ∙ ap (λ (r : RoomValue). Some (state_with (state_before r.store.room.stored event.event) last)) (sym c.self.view_is) in
    let stored : c.store.new.self.room.stored ≡ events ++ last ∷ [] = ap (λ (s : StoreState). s.room.stored) c.store.ensures.stored in
    record {
      graph = subst IsGraph (sym stored) (graph-more events kept last c.self.invariant.graph c.self.invariant.after new ready);
      after = kept-more events kept last c.self.invariant.graph c.self.invariant.after new ready c.push_next.new.self c.self.inside.states.next next c.push_next.ensures ∙ ap states_after (sym stored);
    }
