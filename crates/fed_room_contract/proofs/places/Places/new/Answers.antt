use Rattle.std.proofs.Common.{ℕ, Option}
use Rattle.fed_json.proofs.TextMaps.{text_map-none}
use Rattle.fed_room_contract.proofs.places.Places.new.Goals as goal

pub returns : goal.returns
returns c = text_map-none (λ (place : Option ℕ). place) c.new.result.entries c.new.ensures.empty
