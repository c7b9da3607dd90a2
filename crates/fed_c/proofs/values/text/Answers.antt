use Rattle.fed_c.proofs.ReadValues.{text_of_text, text_of_none}
use Rattle.fed_c.proofs.values.text.Goals as goal

pub returns-in-Ok-clause-ok : goal.returns-in-Ok-clause-ok
returns-in-Ok-clause-ok c = text_of_text c.args.bytes.now c.in-Ok.text.now c.in-Ok.ensures.cases

pub returns-in-Err-clause-fault : goal.returns-in-Err-clause-fault
returns-in-Err-clause-fault c = text_of_none c.args.bytes.now c.in-Err.ensures.cases
