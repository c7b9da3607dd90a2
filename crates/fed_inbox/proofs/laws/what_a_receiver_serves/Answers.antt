use Rattle.fed_inbox.proofs.Deliveries.{new_is_inbox_of, taken_stays}
use Rattle.fed_inbox.proofs.laws.what_a_receiver_serves.Goals as goal

pub returns : goal.returns
returns c = record { new = new_is_inbox_of; stays = taken_stays }
