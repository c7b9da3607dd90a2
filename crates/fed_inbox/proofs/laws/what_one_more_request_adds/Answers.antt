use Rattle.fed_inbox.proofs.Runs.{answers_one_more, state_one_more, fresh_one_more}
use Rattle.fed_inbox.proofs.laws.what_one_more_request_adds.Goals as goal

pub returns : goal.returns
returns c = record { answer = answers_one_more; state = state_one_more; fresh = fresh_one_more }
