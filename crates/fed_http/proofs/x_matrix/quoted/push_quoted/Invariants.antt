use Rattle.std.proofs.Common.{◌≡◌, ◌++◌, ◌∷◌, drop}
use Rattle.fed_http.specs.XMatrixWriting.{escaped}
use Rattle.fed_http.proofs.x_matrix.quoted.push_quoted.Given as goal

-- so far, and what is left
abbrev pub invariant-loop-byte : goal.invariant-loop-byte
invariant-loop-byte l = l.text.items ++ escaped (drop l.byte-index l.value) ≡ l.fn.text.items ++ 34 ∷ escaped l.value
