use Rattle.std.proofs.Common.{◌∙◌, ◌++◌, take, drop, sym, ap, append-nil}
use Rattle.fed_http.specs.Lines.{first_lines}
use Rattle.fed_http.proofs.FirstLines.{first_of_none}
use Rattle.fed_http.proofs.unfinished.first_lines.Goals as goal

pub returns-then-left-eq0 : goal.returns-then-left-eq0
returns-then-left-eq0 c =
    let bytes = c.args.bytes.now in
    let front = take c.loop-i.i bytes in
    sym (c.loop-i.invariant ∙ ap (λ n. front ++ first_lines (drop c.loop-i.i bytes) n) c.if-left-eq0.true ∙ ap (λ v. front ++ v) (first_of_none (drop c.loop-i.i bytes)) ∙ append-nil front)
