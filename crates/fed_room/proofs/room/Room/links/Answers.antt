use Rattle.std.proofs.Common.{ap, ◌∙◌}
use Rattle.std.specs.List.{list_all}
use Rattle.fed_room_contract.specs.Graph.{is_stored}
use Rattle.fed_room_contract.specs.GraphState.{GraphState}
use Rattle.fed_room.specs.Links.{prev_events_for}
use Rattle.fed_room.specs.Room.{RoomValue}
use Rattle.fed_room.proofs.Tips.{prev_events-stored}
use Rattle.fed_room.proofs.room.Room.links.Goals as goal

pub resolved_after-requires : goal.resolved_after-requires
resolved_after-requires c =
    let stored = c.args.self.now.store.room.stored in
    ap (list_all (is_stored stored))
    (c.deref.ensures.value ∙ c.in_ok-prev_events.ensures ∙ ap (λ (g : GraphState). prev_events_for g.stored) c.graph-graph.ensures ∙ ap (λ (r : RoomValue). prev_events_for r.store.room.stored) c.self.view_is)
    ∙ prev_events-stored stored
