use Rattle.std.proofs.Common.{ap, ◌∙◌}
use Rattle.fed_event.specs.Names.{is_one_of}
use Rattle.fed_inbox.proofs.RoomSets.{found}
use Rattle.fed_inbox.proofs.rooms.Rooms.contains.Goals as goal

pub returns : goal.returns
returns c =
    let room = c.args.room.now in
    c.contains.ensures ∙ found room c.self.inside.ids.keys ∙ ap (λ rooms. is_one_of rooms room) c.self.view_is
