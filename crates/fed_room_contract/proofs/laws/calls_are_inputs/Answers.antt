use Rattle.std.proofs.Common.{refl}
use Rattle.fed_room_contract.proofs.Rooms.{one_more_input}
use Rattle.fed_room_contract.proofs.laws.calls_are_inputs.Goals as goal

pub returns : goal.returns
returns c = record {
  receive = λ rules room event. refl;
  advance = λ rules room. refl;
  commit = λ rules room event. refl;
  one_more_input = one_more_input;
}
