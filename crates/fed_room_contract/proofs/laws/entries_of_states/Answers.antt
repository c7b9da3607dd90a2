use Rattle.std.specs.FinMap as finite
use Rattle.fed_room_contract.specs.State.{key_cmp}
use Rattle.fed_room_contract.proofs.States.{same_state, entry_at-same, entry_at-other}
use Rattle.fed_room_contract.proofs.laws.entries_of_states.Goals as goal

pub returns : goal.returns
returns c = record {
  empty = λ kind key. finite.get-empty key_cmp (kind, key);
  laid = entry_at-same;
  others = entry_at-other;
  same = same_state;
}
