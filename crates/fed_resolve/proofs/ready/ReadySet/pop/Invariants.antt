use Rattle.std.proofs.Common.{length}
use Rattle.fed_resolve.specs.ReadyParts.{IsReadySet, none_left}
use Rattle.fed_resolve.proofs.ready.ReadySet.pop.Given as goal

abbrev pub invariant-loop-first : goal.invariant-loop-first
invariant-loop-first g l = IsReadySet none_left l.is_listed l.candidates l.self

abbrev pub decreases-loop-first : goal.decreases-loop-first
decreases-loop-first g l = length l.self.first.keys
