use Rattle.std.proofs.Common.{All, take}
use Rattle.fed_hub_kept.specs.Sent.{IsEntrySent}
use Rattle.fed_hub_kept.proofs.sent.are_sent_as_stored.Given as goal

-- the entries so far
abbrev pub invariant-loop-entry : goal.invariant-loop-entry
invariant-loop-entry l = All (IsEntrySent l.rooms l.servers l.own) (take l.entry-index l.entries)
