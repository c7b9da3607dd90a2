use Rattle.std.proofs.Common.{◌<◌, take}
use Rattle.fed_hub_serving.specs.WireRoom.{HaveTakenIn, HaveRoomTo, count_for}
use Rattle.fed_hub_serving.proofs.room_wires.full_among.Given as goal

-- the wires to the rooms of the first events have room
abbrev pub invariant-loop-one : goal.invariant-loop-one
invariant-loop-one g l = record { same : HaveTakenIn l.initial.wires l.wires; room : HaveRoomTo (λ k. 0 < count_for k (take l.one-index l.bound)) l.bound l.wires }
