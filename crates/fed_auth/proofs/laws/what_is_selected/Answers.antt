use Rattle.fed_auth.specs.Selection.{selection_keys}
use Rattle.fed_auth.proofs.Selections.{has-each_once, in_order, once_each}
use Rattle.fed_auth.proofs.laws.what_is_selected.Goals as goal

pub returns : goal.returns
returns c = record {
  among = λ fields state id. has-each_once state (selection_keys fields) id;
  once = λ fields state. once_each state (selection_keys fields);
  in_order = λ fields state. in_order state (selection_keys fields);
}
