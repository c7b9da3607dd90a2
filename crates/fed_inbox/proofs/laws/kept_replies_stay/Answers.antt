use Rattle.fed_inbox.proofs.Runs.{all_keep}
use Rattle.fed_inbox.proofs.laws.kept_replies_stay.Goals as goal

pub returns : goal.returns
returns c = all_keep
