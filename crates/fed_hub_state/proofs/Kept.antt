-- A room under its lock is given one input more.
use Rattle.std.proofs.Common.{◌++◌, ◌∷◌, [], List}
use Rattle.fed_room_contract.specs.declared.input.Input.{Input}
use Rattle.fed_room_contract.specs.Room.{RoomState, Rules}
use Rattle.fed_room_contract.specs.Runs.{after_input, room_after, AllMayBeGiven}

-- inputs that might be given, behind others that might
pub all_given : (rules : Rules) (room : RoomState) (inputs more : List Input) → AllMayBeGiven rules room inputs → AllMayBeGiven rules (room_after rules room inputs) more → AllMayBeGiven rules room (inputs ++ more)
all_given rules room [] more may then = then
all_given rules room (input ∷ inputs) more may then = (may.0, all_given rules (after_input rules room input) inputs more may.1 then)
