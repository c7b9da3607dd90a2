use Rattle.fed_inbox.proofs.Runs.{kept_was_answered}
use Rattle.fed_inbox.proofs.laws.what_is_kept_was_answered.Goals as goal

pub returns : goal.returns
returns c = kept_was_answered
