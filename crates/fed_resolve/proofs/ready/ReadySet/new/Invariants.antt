use Rattle.std.proofs.Common.{nat_lt, not}
use Rattle.fed_resolve.specs.ReadyParts.{IsReadySet}
use Rattle.fed_resolve.proofs.ready.ReadySet.new.Given as goal

-- those that come are left out
abbrev pub invariant-loop-index : goal.invariant-loop-index
invariant-loop-index g l = IsReadySet (λ index. not (nat_lt index l.index)) l.is_listed l.candidates l.ready
