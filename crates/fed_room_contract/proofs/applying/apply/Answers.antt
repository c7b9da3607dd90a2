use Rattle.std.proofs.Common.{◌∙◌, ap}
use Rattle.fed_room_contract.specs.Room.{RoomState, after_receipt, first_ready}
use Rattle.fed_room_contract.proofs.Rooms.{none_is_left}
use Rattle.fed_room_contract.proofs.applying.apply.Goals as goal

pub returns-in-Err-advance_all-clause-known : goal.returns-in-Err-advance_all-clause-known
returns-in-Err-advance_all-clause-known g c known none =
    none_is_left _ _ _ _ c.in-Err-advance_all.ensures.halted
    (ap (λ (r : RoomState). first_ready r) (c.in-Ok.ensures.after ∙ ap (after_receipt (g.R.RoomEngine.room c.args.room.now) c.args.event) (c.in-Ok.ensures.receipt ∙ known)) ∙ none)
    c.in-Err-advance_all.ensures.left

pub returns-in-Err-advance_all-clause-dropped : goal.returns-in-Err-advance_all-clause-dropped
returns-in-Err-advance_all-clause-dropped g c dropped none =
    none_is_left _ _ _ _ c.in-Err-advance_all.ensures.halted
    (ap (λ (r : RoomState). first_ready r) (c.in-Ok.ensures.after ∙ ap (after_receipt (g.R.RoomEngine.room c.args.room.now) c.args.event) (c.in-Ok.ensures.receipt ∙ dropped)) ∙ none)
    c.in-Err-advance_all.ensures.left
