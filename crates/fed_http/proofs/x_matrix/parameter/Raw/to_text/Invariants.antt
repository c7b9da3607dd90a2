use Rattle.std.proofs.Common.{◌≡◌, ◌++◌, length, false}
use Rattle.fed_http.specs.XMatrixParts.{unescaped}
use Rattle.fed_http.proofs.x_matrix.parameter.Raw.to_text.Given as goal

-- so far, and what is left
abbrev pub invariant-loop-byte : goal.invariant-loop-byte
invariant-loop-byte l = l.bytes.items ++ unescaped false l.left ≡ unescaped false l.fn.self.text.now

abbrev pub decreases-loop-byte : goal.decreases-loop-byte
decreases-loop-byte l = length l.left
