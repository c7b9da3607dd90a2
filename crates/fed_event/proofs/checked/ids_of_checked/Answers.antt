use Rattle.fed_event.proofs.CheckedFields.{id_kept, room_kept}
use Rattle.fed_event.proofs.checked.ids_of_checked.Goals as goal

pub returns : goal.returns
returns c = record { id = id_kept; room = room_kept }
