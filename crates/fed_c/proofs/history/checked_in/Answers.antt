use Rattle.std.proofs.Common.{Err, ap}
use Rattle.fed_json.specs.JsonRef.{seen}
use Rattle.fed_c.proofs.Histories.{event_checked, event_lacks_signature, test_ends}
use Rattle.fed_c.proofs.history.checked_in.Goals as goal

pub returns-in_err-event-clause-fault : goal.returns-in_err-event-clause-fault
returns-in_err-event-clause-fault c =
    test_ends c.args.version (seen c.args.value) c.in_ok-to_json.field-0 c.in_err-event.field-0.0 c.from_residual-in_err-event.result c.from_residual-in_err-event.ensures.1 c.in_ok-to_json.ensures c.in_err-event.ensures.fails

pub returns-in-Ok-clause-ok : goal.returns-in-Ok-clause-ok
returns-in-Ok-clause-ok c =
    event_checked c.args.version (seen c.args.value) c.in_ok-to_json.field-0 c.in_ok-event.event c.in-Ok.event c.in_ok-to_json.ensures c.in_ok-event.ensures.ok c.in_ok-event.ensures.passes c.in-Ok.ensures.signed c.in-Ok.ensures.ok

pub returns-clause-fault : goal.returns-clause-fault
returns-clause-fault c = λ _.
    event_lacks_signature c.args.version (seen c.args.value) c.in_ok-to_json.field-0 c.in_ok-event.event c.in_ok-to_json.ensures c.in_ok-event.ensures.ok (c.in-Err-BadSignature.ensures.unsigned (ap Err c.in-Err-BadSignature.field-0-is))
