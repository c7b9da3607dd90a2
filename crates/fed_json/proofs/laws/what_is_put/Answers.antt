use Rattle.fed_json.proofs.Edited.{get-with_member, get-with_member_other}
use Rattle.fed_json.proofs.laws.what_is_put.Goals as goal

pub returns-clause-there : goal.returns-clause-there
returns-clause-there c = get-with_member

pub returns-clause-others : goal.returns-clause-others
returns-clause-others c = get-with_member_other
