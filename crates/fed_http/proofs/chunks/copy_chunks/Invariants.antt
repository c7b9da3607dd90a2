use Rattle.std.proofs.Common.{length}
use Rattle.fed_http.proofs.Copies.{Copied}
use Rattle.fed_http.proofs.chunks.copy_chunks.Given as goal

abbrev pub invariant-loop-line : goal.invariant-loop-line
invariant-loop-line l = Copied l.bytes l.body.items l.rest

abbrev pub decreases-loop-line : goal.decreases-loop-line
decreases-loop-line l = length l.rest
