use Rattle.fed_inbox.proofs.Queues.{few_for_rooms, queue_of_place, queues_stay, place_is_room}
use Rattle.fed_inbox.proofs.laws.what_the_queues_get.Goals as goal

pub returns : goal.returns
returns c = record { few = few_for_rooms; queue = queue_of_place; count = queues_stay; room = place_is_room }
