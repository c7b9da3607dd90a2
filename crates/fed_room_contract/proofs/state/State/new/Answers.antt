use Rattle.std.proofs.Common.{ap, ◌∙◌}
use Rattle.fed_json.proofs.TextMaps.{text_map-none}
use Rattle.fed_room_contract.specs.StateParts.{Ids, flattened}
use Rattle.fed_room_contract.proofs.States.{flattened-empty}
use Rattle.fed_room_contract.proofs.state.State.new.Goals as goal

pub returns : goal.returns
returns c = ap flattened (text_map-none (λ (ids : Ids). ids) c.new.result.entries c.new.ensures.empty) ∙ flattened-empty
