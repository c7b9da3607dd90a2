use Rattle.std.proofs.Common.{◌≡◌, drop, false}
use Rattle.fed_http.specs.XMatrixParts.{quote_index}
use Rattle.fed_http.proofs.Quotes.{index_from}
use Rattle.fed_http.proofs.x_matrix.quoted.closing_quote.Given as goal

-- what is left decides
abbrev pub invariant-loop-i : goal.invariant-loop-i
invariant-loop-i l = quote_index false l.text ≡ index_from l.i l.escaped (drop l.i l.text)
