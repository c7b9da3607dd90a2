use Rattle.std.proofs.Common.{◌≡◌, ◌++◌, ◌≤◌, length, take, false}
use Rattle.fed_http.specs.XMatrixParts.{unescaped}
use Rattle.fed_http.proofs.x_matrix.parameter.unescape.Given as goal

-- so far, and what is left
abbrev pub invariant-loop-byte : goal.invariant-loop-byte
invariant-loop-byte l = record {
  room : l.count ≤ 86;
  size : length l.buffer ≡ 86;
  text : take l.count l.buffer ++ unescaped false l.left ≡ unescaped false l.fn.text;
}

abbrev pub decreases-loop-byte : goal.decreases-loop-byte
decreases-loop-byte l = length l.left
