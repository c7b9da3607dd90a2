use Rattle.fed_hub_kept.specs.OfJournal.{IsOfItsPlace}
use Rattle.fed_hub_kept.proofs.InPlaces.{HoldOfFirst}
use Rattle.fed_hub_kept.proofs.outboxes.are_of_journal.Given as goal

-- the outboxes so far
abbrev pub invariant-loop-place : goal.invariant-loop-place
invariant-loop-place g l = HoldOfFirst (IsOfItsPlace l.entries) l.outboxes l.place
