use Rattle.fed_journal.proofs.Entries.{placed_within, next_number, parcel_at}
use Rattle.fed_journal.proofs.laws.places_count.Goals as goal

pub returns : goal.returns
returns c = record { within = placed_within; next = next_number; numbers = parcel_at }
