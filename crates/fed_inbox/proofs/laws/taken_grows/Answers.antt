use Rattle.std.proofs.Common.{refl}
use Rattle.fed_inbox.specs.Log.{LogState}
use Rattle.fed_inbox.proofs.Runs.{all_grow}
use Rattle.fed_inbox.specs.Taking.{taking_of}
use Rattle.fed_inbox.proofs.laws.taken_grows.Goals as goal

pub returns-clause-pdus : goal.returns-clause-pdus
returns-clause-pdus c checks = all_grow checks (λ (l : LogState). l.pdus) (λ l rooms txn t. ((taking_of checks rooms t).pdus, refl))

pub returns-clause-edus : goal.returns-clause-edus
returns-clause-edus c checks = all_grow checks (λ (l : LogState). l.edus) (λ l rooms txn t. ((taking_of checks rooms t).edus, refl))
