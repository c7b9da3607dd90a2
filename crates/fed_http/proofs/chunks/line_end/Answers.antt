use Rattle.std.proofs.Common.{arith}
use Rattle.std.proofs.lemmas.Bool.Decides.{nat_tests}
use Rattle.fed_http.proofs.Lines.{empty_has_no_end, half_an_end}
use Rattle.fed_http.proofs.chunks.line_end.Goals as goal

pub returns-then-is_empty : goal.returns-then-is_empty
returns-then-is_empty c = empty_has_no_end c.args.bytes.now (grind (arith, nat_tests))

pub returns-then-bytes-eq1 : goal.returns-then-bytes-eq1
returns-then-bytes-eq1 c = half_an_end c.args.bytes.now (omega arith) (omega arith) c.if-bytes-ne13.false
