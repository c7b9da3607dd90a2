use Rattle.fed_auth.specs.Selection.{selection_keys}
use Rattle.fed_auth.proofs.Passing.{selection_inside, selection_single}
use Rattle.fed_auth.proofs.laws.selections_pass.Goals as goal

pub returns : goal.returns
returns c = record {
  single = λ events fields state names. selection_single events state names (selection_keys fields);
  inside = λ events event state names. selection_inside events state names event;
}
