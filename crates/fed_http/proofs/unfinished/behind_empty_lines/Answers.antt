use Rattle.fed_http.proofs.Windows.{to_end}
use Rattle.fed_http.proofs.Targets.{one_more}
use Rattle.fed_http.proofs.unfinished.behind_empty_lines.Goals as goal

pub loop-rest-preserved : goal.loop-rest-preserved
loop-rest-preserved c = one_more c.args.bytes.now c.loop-rest.rest.now _ c.line_end_len-len.result c.loop-rest.invariant c.line_end_len-len.ensures c.if-len-eq0.false (to_end c.loop-rest.rest.now c.line_end_len-len.result)
