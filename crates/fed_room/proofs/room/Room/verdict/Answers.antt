use Rattle.std.proofs.Common.{◌≡◌, List, true, sym, ap, ◌∙◌}
use Rattle.fed_event.specs.EventIds.{ids_left}
use Rattle.fed_event.specs.Fields.{prev_events_of}
use Rattle.fed_room_contract.specs.declared.graph.Stored.{Stored}
use Rattle.fed_room_contract.specs.GraphState.{GraphState}
use Rattle.fed_room_contract.specs.Room.{extremities_of}
use Rattle.fed_auth.specs.AuthState.{auth_state_of}
use Rattle.fed_room.specs.Decision.{allowed_by_auth, allowed_by_both}
use Rattle.fed_room.specs.Ids.{are_same}
use Rattle.fed_room.specs.Room.{RoomValue}
use Rattle.fed_room.proofs.SameTips.{accepted-too}
use Rattle.fed_room.proofs.room.Room.verdict.Goals as goal

pub returns-then-are_same : goal.returns-then-are_same
returns-then-are_same c =
    let events = c.args.self.now.store.room.stored in
    let event = c.args.event.now in
    let stored : c.self.inside.store.room.stored ≡ events = ap (λ (r : RoomValue). r.store.room.stored) c.self.view_is in
    let graph : c.graph-graph.result.now.stored ≡ events = ap (λ (g : GraphState). g.stored) c.graph-graph.ensures ∙ stored in
    let prevs : ids_left c.prev_events.result ≡ prev_events_of event.event = c.prev_events.ensures ∙ ap prev_events_of c.event.ensures.event in
    let tips : c.extremities.result.now ≡ extremities_of events = c.extremities.ensures ∙ ap extremities_of stored in
    let same : are_same (prev_events_of event.event) (extremities_of events) ≡ true = sym (λ i. are_same (prevs i) (tips i)) ∙ sym c.are_same.ensures ∙ c.if-are_same.true in
    let auth = allowed_by_auth events event (auth_state_of events event.event) in
    let both : c.in_ok-rule.field-0 ≡ allowed_by_both events event auth =
    c.in_ok-rule.ensures ∙ ap (λ (es : List Stored). allowed_by_both es event (allowed_by_auth es event (auth_state_of es event.event))) graph in
    sym (accepted-too events event same auth c.in_default.field-0 (sym both ∙ c.in_default.is))
