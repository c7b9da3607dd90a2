use Rattle.fed_json.proofs.Edited.{get-without, get-without_other}
use Rattle.fed_json.proofs.laws.what_is_taken.Goals as goal

pub returns-clause-there : goal.returns-clause-there
returns-clause-there c = get-without

pub returns-clause-others : goal.returns-clause-others
returns-clause-others c = get-without_other
