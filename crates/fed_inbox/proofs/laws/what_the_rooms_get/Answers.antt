use Rattle.fed_inbox.proofs.ForRooms.{all_fresh, one_apart}
use Rattle.fed_inbox.proofs.laws.what_the_rooms_get.Goals as goal

pub returns : goal.returns
returns c = record { all = all_fresh; apart = one_apart }
