use Rattle.fed_room.proofs.StartedRooms.{all_received, all_inputs, started_well, stays_well}
use Rattle.fed_room.proofs.laws.a_started_room_and_its_inputs.Goals as goal

pub returns : goal.returns
returns c = record { received = all_received; inputs = all_inputs; well_formed = started_well; stays = stays_well }
