use Rattle.fed_json.specs.Members.{members_left}
use Rattle.fed_c.proofs.EnteredVerdicts.{all_at_once}
use Rattle.fed_c.proofs.replies.verdicts_of.Goals as goal

pub loop-id-init : goal.loop-id-init
loop-id-init c = let whole = all_at_once (members_left c.args.members) in cc
