use Rattle.std.proofs.Common.{◌≡◌, length}
use Rattle.fed_inbox.specs.Taken.{taken_left}
use Rattle.fed_inbox.proofs.taken.TakenIterator.next.Given as goal

-- what is left stays
abbrev pub invariant-loop-list : goal.invariant-loop-list
invariant-loop-list l = taken_left l.self ≡ taken_left l.fn.self

abbrev pub decreases-loop-list : goal.decreases-loop-list
decreases-loop-list l = length l.self.lists.now
