use Rattle.fed_inbox.proofs.Histories.{joined_histories, placed, histories_own, histories_rooms}
use Rattle.fed_inbox.proofs.laws.histories_join.Goals as goal

pub returns : goal.returns
returns c = record { join = joined_histories; among = placed; own = histories_own; rooms = histories_rooms }
