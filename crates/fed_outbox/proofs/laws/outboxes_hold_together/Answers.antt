use Rattle.std.proofs.Common.{refl, arith}
use Rattle.fed_outbox.specs.Outbox.{new_outbox}
use Rattle.fed_outbox.proofs.Kept.{call_together, calls_together}
use Rattle.fed_outbox.proofs.laws.outboxes_hold_together.Goals as goal

pub returns-clause-call : goal.returns-clause-call
returns-clause-call c = call_together

pub returns-clause-calls : goal.returns-clause-calls
returns-clause-calls c = calls_together

pub returns-clause-runs : goal.returns-clause-runs
returns-clause-runs c = λ d calls. calls_together (new_outbox d) calls (record { newest = (refl, refl); failures = omega arith; last = omega arith })
