use Rattle.std.proofs.Common.{subst, sym}
use Rattle.std.proofs.lemmas.Result.{on_err_weaker}
use Rattle.fed_room.specs.Room.{RoomValue, IsPrepared}
use Rattle.fed_room.proofs.room.RoomRoomEngine.receive.Goals as goal

pub returns-clause-kept : goal.returns-clause-kept
returns-clause-kept c = on_err_weaker c.take.result (λ same prepared is. subst (λ (r : RoomValue). IsPrepared r prepared) (sym same) is) c.take.ensures.err
