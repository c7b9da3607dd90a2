use Rattle.fed_outbox.proofs.Accepting.{none_accepted, call_accepted, calls_accepted}
use Rattle.fed_outbox.proofs.laws.what_was_accepted.Goals as goal

pub returns : goal.returns
returns c = record { new = none_accepted; call = call_accepted; calls = calls_accepted }
