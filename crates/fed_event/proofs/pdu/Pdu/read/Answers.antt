use Rattle.std.proofs.Common.{Err, ap}
use Rattle.fed_event.proofs.Reading.{past_all, read-no_value, read-not_ok, read-other_number, read-event, read-fault}
use Rattle.fed_event.proofs.pdu.Pdu.read.Goals as goal

pub unreachable-requires : goal.unreachable-requires
unreachable-requires c = past_all c.args.bytes.now (c.in-Err-TooDeep.ensures.too_deep (ap Err c.in-Err-TooDeep.field-0-is))

pub returns-in-Ok-clause-ok : goal.returns-in-Ok-clause-ok
returns-in-Ok-clause-ok c = read-event c.args.version c.args.bytes.now c.in-Ok.json c.of_json.result c.in-Ok.ensures.ok c.of_json.ensures.ok c.of_json.ensures.passes

pub returns-in-Ok-clause-fault : goal.returns-in-Ok-clause-fault
returns-in-Ok-clause-fault c = read-fault c.args.bytes.now c.in-Ok.json c.of_json.result c.in-Ok.ensures.ok c.of_json.ensures.fails

pub returns-in-Err-NotJson-clause-fault : goal.returns-in-Err-NotJson-clause-fault
returns-in-Err-NotJson-clause-fault c = λ other. read-no_value c.args.bytes.now (c.in-Err-NotJson.ensures.not_json (ap Err c.in-Err-NotJson.field-0-is))

pub returns-in-Err-NotJson-clause-only : goal.returns-in-Err-NotJson-clause-only
returns-in-Err-NotJson-clause-only c = λ ok. absurd (read-not_ok c.args.bytes.now (c.in-Err-NotJson.ensures.not_json (ap Err c.in-Err-NotJson.field-0-is)) ok)

pub returns-in-Err-NotCanonicalValue-clause-fault : goal.returns-in-Err-NotCanonicalValue-clause-fault
returns-in-Err-NotCanonicalValue-clause-fault c =
    λ other. read-other_number c.args.bytes.now (c.in-Err-NotCanonicalValue.ensures.not_canonical (ap Err c.in-Err-NotCanonicalValue.field-0-is))
