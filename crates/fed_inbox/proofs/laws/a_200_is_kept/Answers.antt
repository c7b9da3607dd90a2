use Rattle.fed_inbox.proofs.Runs.{ok_is_kept, first_takes}
use Rattle.fed_inbox.proofs.laws.a_200_is_kept.Goals as goal

pub returns : goal.returns
returns c = record { kept = ok_is_kept; taken = first_takes }
