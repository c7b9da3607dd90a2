use Rattle.fed_room_contract.proofs.WellFormed.{new_room, input_keeps, inputs_keep}
use Rattle.fed_room_contract.proofs.laws.rooms_stay_well_formed.Goals as goal

pub returns : goal.returns
returns c = record { new = new_room; input = input_keeps; inputs = inputs_keep }
