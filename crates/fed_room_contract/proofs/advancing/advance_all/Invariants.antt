use Rattle.std.proofs.Common.{◌≡◌, length}
use Rattle.fed_room_contract.proofs.Rooms.{HasAdvanced}
use Rattle.fed_room_contract.proofs.advancing.advance_all.Given as goal

abbrev pub invariant-loop-room : goal.invariant-loop-room
invariant-loop-room g l = record {
  advanced : HasAdvanced (g.R.RoomEngine.rules l.initial.room) (g.R.RoomEngine.room l.initial.room) (g.R.RoomEngine.room l.room);
  rules : g.R.RoomEngine.rules l.room ≡ g.R.RoomEngine.rules l.initial.room;
}

abbrev pub decreases-loop-room : goal.decreases-loop-room
decreases-loop-room g l = length (g.R.RoomEngine.room l.room).waiting
