use Rattle.std.proofs.Common.{ap, sym}
use Rattle.fed_txn.specs.declared.fault.BodyField.{BodyField}
use Rattle.fed_inbox.specs.declared.refusal.Refusal.TheVariants.{BadField}
use Rattle.fed_inbox.specs.Refusal.{error_reply, error_body}
use Rattle.fed_inbox.proofs.refusal.bad_field.Goals as goal

pub returns-in-OriginServerTs : goal.returns-in-OriginServerTs
returns-in-OriginServerTs c = ap (λ (f : BodyField). error_body (error_reply (BadField f))) (sym c.in-OriginServerTs.is)
