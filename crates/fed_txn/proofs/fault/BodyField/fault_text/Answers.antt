use Rattle.std.proofs.Common.{sym, ap}
use Rattle.fed_txn.specs.Fault.{fault_text}
use Rattle.fed_txn.specs.declared.fault.TxnFault.TheVariants.{BadJson}
use Rattle.fed_txn.proofs.fault.BodyField.fault_text.Goals as goal

pub returns-in-OriginServerTs : goal.returns-in-OriginServerTs
returns-in-OriginServerTs c = sym (ap (λ field. fault_text (BadJson field)) c.in-OriginServerTs.is)
