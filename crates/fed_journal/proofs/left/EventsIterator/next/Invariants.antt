use Rattle.std.proofs.Common.{◌≡◌, length}
use Rattle.fed_journal.specs.Left.{events_left}
use Rattle.fed_journal.proofs.left.EventsIterator.next.Given as goal

-- what is left stays
abbrev pub invariant-loop-entry : goal.invariant-loop-entry
invariant-loop-entry l = events_left l.self ≡ events_left l.fn.self

abbrev pub decreases-loop-entry : goal.decreases-loop-entry
decreases-loop-entry l = length l.self.entries.now
