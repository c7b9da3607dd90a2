use Rattle.std.proofs.Common.{length}
use denote.Text.{Utf8}
use denote.Shadow.{shadow}
use Rattle.fed_http.proofs.ParameterLists.{Scanned}
use Rattle.fed_http.proofs.x_matrix.named_values.NamedValues.scan.Given as goal

abbrev pub invariant-loop-found : goal.invariant-loop-found
invariant-loop-found l = shadow (Utf8 l.left) × Scanned l.fn.text l.left (record { origin = l.found.0; destination = l.found.1.0; key = l.found.1.1.0; signature = l.found.1.1.1.0 })

abbrev pub decreases-loop-found : goal.decreases-loop-found
decreases-loop-found l = length l.left
