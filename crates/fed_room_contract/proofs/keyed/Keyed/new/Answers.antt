use Rattle.fed_json.proofs.TextMaps.{text_map-none}
use Rattle.fed_room_contract.proofs.keyed.Keyed.new.Goals as goal

pub returns : goal.returns
returns c = text_map-none (λ id. id) c.new.result.entries c.new.ensures.empty
