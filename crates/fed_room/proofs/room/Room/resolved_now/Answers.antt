use Rattle.std.proofs.Common.{ap, ◌∙◌}
use Rattle.std.specs.List.{list_all}
use Rattle.fed_room_contract.specs.Graph.{is_stored}
use Rattle.fed_room_contract.specs.Room.{extremities_of}
use Rattle.fed_room.specs.Room.{RoomValue}
use Rattle.fed_room.proofs.Tips.{extremities-stored}
use Rattle.fed_room.proofs.room.Room.resolved_now.Goals as goal

pub resolved_after-requires : goal.resolved_after-requires
resolved_after-requires c =
    let stored = c.args.self.now.store.room.stored in
    ap (list_all (is_stored stored)) (c.extremities.ensures ∙ ap (λ (r : RoomValue). extremities_of r.store.room.stored) c.self.view_is) ∙ extremities-stored stored
