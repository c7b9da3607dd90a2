use Rattle.std.proofs.Common.{◌≡◌, length}
use Rattle.fed_journal.specs.Left.{addressed_edus_left}
use Rattle.fed_journal.proofs.left.AddressedEdusIterator.next.Given as goal

-- what is left stays
abbrev pub invariant-loop-place : goal.invariant-loop-place
invariant-loop-place l = addressed_edus_left l.self ≡ addressed_edus_left l.fn.self

abbrev pub decreases-loop-place : goal.decreases-loop-place
decreases-loop-place l = length l.self.places.now
