use Rattle.std.proofs.Common.{ap}
use Rattle.fed_inbox.proofs.Logs.{same_taken}
use Rattle.fed_inbox.specs.TextList.{joined}
use Rattle.fed_inbox.proofs.log.Log.new.Goals as goal

pub returns : goal.returns
returns c = same_taken (ap joined c.new.ensures.items) (ap joined c.new-2.ensures.items)
