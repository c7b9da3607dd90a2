use Rattle.std.proofs.Common.{◌∙◌, List, ap, subst}
use Rattle.fed_room_contract.specs.declared.graph.Stored.{Stored}
use Rattle.fed_room_contract.specs.Graph.{IsGraph}
use Rattle.fed_room_contract.proofs.Rooms.{room_grows, stored_is_ready}
use Rattle.fed_room_contract.proofs.WellFormed.{inputs_keep}
use Rattle.fed_room_contract.proofs.laws.states_before_stay.Goals as goal

pub returns : goal.returns
returns c = λ rules room inputs id stored lawful well may found.
    let grown = room_grows rules room inputs in
    let whole = subst IsGraph grown.1 (inputs_keep rules room inputs well may).graph in
    ap (λ (xs : List Stored). rules.before xs stored.event.event) grown.1
    ∙ lawful.stays room.stored grown.0 stored.event.event whole (stored_is_ready room.stored id stored well.graph found)
