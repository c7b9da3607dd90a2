use Rattle.std.proofs.Common.{Err, ap}
use Rattle.fed_c.proofs.Headers.{no_text_read, said_read, bad_read, memory_read}
use Rattle.fed_c.proofs.x_matrix.reading.Goals as goal

pub returns-in_err-text : goal.returns-in_err-text
returns-in_err-text c = no_text_read c.args.header.now c.from_residual.result c.in_err-text.field-0.0 c.in_err-text.ensures.fault c.from_residual.ensures.1

pub returns-in-Ok : goal.returns-in-Ok
returns-in-Ok c = said_read c.args.header.now c.in_ok-text.field-0.now c.in-Ok.said c.in_ok-text.ensures.ok c.in-Ok.ensures.ok c.in-Ok.ensures.only

pub returns-in-Err-Memory : goal.returns-in-Err-Memory
returns-in-Err-Memory c = memory_read c.args.header.now c.in_ok-text.field-0.now c.in_ok-text.ensures.ok (λ none. let told = c.in-Err-Memory.ensures.refuses none in absurd (cc))

pub returns-in-Err-BadHeader : goal.returns-in-Err-BadHeader
returns-in-Err-BadHeader c = bad_read c.args.header.now c.in_ok-text.field-0.now c.in_ok-text.ensures.ok (c.in-Err-BadHeader.ensures.bad (ap Err c.in-Err-BadHeader.field-0-is))
