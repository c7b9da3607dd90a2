use Rattle.std.proofs.Common.{◌≡◌, ◌++◌, take, drop}
use Rattle.fed_http.specs.Lines.{first_lines}
use Rattle.fed_http.proofs.unfinished.first_lines.Given as goal

abbrev pub invariant-loop-i : goal.invariant-loop-i
invariant-loop-i l = first_lines l.bytes l.most ≡ take l.i l.bytes ++ first_lines (drop l.i l.bytes) l.left
