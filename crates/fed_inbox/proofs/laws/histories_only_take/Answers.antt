use Rattle.fed_inbox.proofs.Histories.{histories_pdus, histories_edus}
use Rattle.fed_inbox.proofs.laws.histories_only_take.Goals as goal

pub returns : goal.returns
returns c = record { pdus = histories_pdus; edus = histories_edus }
