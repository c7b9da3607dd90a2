use Rattle.std.proofs.Common.{◌≡◌, ◌≤◌, length, take}
use Rattle.fed_journal.specs.Journal.{events_of}
use Rattle.fed_loop.proofs.counting.events_among.Given as goal

-- the events of the entries so far
abbrev pub invariant-loop-entry : goal.invariant-loop-entry
invariant-loop-entry l = (l.count ≡ length (events_of (take l.entry-index l.entries))) × (l.count ≤ l.entry-index)
