use Rattle.fed_journal.proofs.Entries.{events_placed, edus_placed}
use Rattle.fed_journal.proofs.laws.what_is_addressed_is_placed.Goals as goal

pub returns : goal.returns
returns c = record { events = events_placed; edus = edus_placed }
