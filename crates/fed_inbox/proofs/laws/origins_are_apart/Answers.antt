use Rattle.std.proofs.Common.{ap}
use Rattle.fed_inbox.specs.Inbox.{pdus_by, edus_by}
use Rattle.fed_inbox.specs.Runs.{reply_by}
use Rattle.fed_inbox.proofs.Cases.{other_stays}
use Rattle.fed_inbox.proofs.laws.origins_are_apart.Goals as goal

pub returns-clause-pdus : goal.returns-clause-pdus
returns-clause-pdus c checks s r found o apart = ap pdus_by (other_stays checks s r found o apart)

pub returns-clause-edus : goal.returns-clause-edus
returns-clause-edus c checks s r found o apart = ap edus_by (other_stays checks s r found o apart)

pub returns-clause-replies : goal.returns-clause-replies
returns-clause-replies c checks s r found o txn apart = ap (λ l. reply_by l txn) (other_stays checks s r found o apart)
