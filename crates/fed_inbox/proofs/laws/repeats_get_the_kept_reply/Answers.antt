use Rattle.fed_inbox.proofs.Runs.{repeats}
use Rattle.fed_inbox.proofs.laws.repeats_get_the_kept_reply.Goals as goal

pub returns : goal.returns
returns c = repeats
