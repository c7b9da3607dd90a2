use Rattle.std.proofs.Common.{◌-◌, length}
use Rattle.fed_http.proofs.Walks.{Walked}
use Rattle.fed_http.proofs.chunks.find_last.Given as goal

abbrev pub invariant-loop-size : goal.invariant-loop-size
invariant-loop-size l = Walked l.bytes l.body l.text

abbrev pub decreases-loop-size : goal.decreases-loop-size
decreases-loop-size l = length l.bytes - l.text
