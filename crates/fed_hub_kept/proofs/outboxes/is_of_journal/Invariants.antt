use Rattle.std.proofs.Common.{◌↔◌, drop}
use Rattle.fed_journal.specs.Journal.{loads}
use Rattle.fed_hub_kept.specs.Left.{left_in, all_of}
use Rattle.fed_hub_kept.proofs.Fronts.{IsFront}
use Rattle.fed_hub_kept.proofs.outboxes.is_of_journal.Given as goal

-- what is left decides
abbrev pub invariant-loop-entry : goal.invariant-loop-entry
invariant-loop-entry l = IsFront (all_of l.outbox) (loads l.entries l.dest) ↔ IsFront (left_in l.left) (loads (drop l.entry-index l.entries) l.dest)
