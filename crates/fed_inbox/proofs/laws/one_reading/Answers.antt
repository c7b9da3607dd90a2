use Rattle.fed_inbox.proofs.Incomings.{one_reading}
use Rattle.fed_inbox.proofs.laws.one_reading.Goals as goal

pub returns : goal.returns
returns c = one_reading
