use Rattle.fed_room_contract.proofs.Rooms.{room_grows, room_after-++}
use Rattle.fed_room_contract.proofs.laws.rooms_grow.Goals as goal

pub returns : goal.returns
returns c = record { stored = room_grows; inputs = room_after-++ }
