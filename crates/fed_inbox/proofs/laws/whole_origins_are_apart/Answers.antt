use Rattle.std.proofs.Common.{ap}
use Rattle.fed_inbox.specs.Inbox.{pdus_by, edus_by}
use Rattle.fed_inbox.specs.Runs.{reply_by}
use Rattle.fed_inbox.proofs.Histories.{whole_apart}
use Rattle.fed_inbox.proofs.laws.whole_origins_are_apart.Goals as goal

pub returns-clause-pdus : goal.returns-clause-pdus
returns-clause-pdus c checks old new request answer fresh heading other is reads apart = ap pdus_by (whole_apart checks old request answer new fresh is heading reads other apart)

pub returns-clause-edus : goal.returns-clause-edus
returns-clause-edus c checks old new request answer fresh heading other is reads apart = ap edus_by (whole_apart checks old request answer new fresh is heading reads other apart)

pub returns-clause-replies : goal.returns-clause-replies
returns-clause-replies c checks old new request answer fresh heading other txn is reads apart = ap (λ l. reply_by l txn) (whole_apart checks old request answer new fresh is heading reads other apart)
