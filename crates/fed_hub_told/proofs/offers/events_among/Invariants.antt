use Rattle.std.proofs.Common.{◌≡◌, map, take}
use Rattle.fed_journal.specs.Journal.{events_of}
use Rattle.fed_hub_told.proofs.offers.events_among.Given as goal

-- the events of the entries so far
abbrev pub invariant-loop-entry : goal.invariant-loop-entry
invariant-loop-entry l = map (λ e. e.now) l.events.items ≡ events_of (take l.entry-index l.entries)
