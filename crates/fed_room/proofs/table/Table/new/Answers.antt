use Rattle.std.proofs.Common.{ap}
use Rattle.fed_json.proofs.TextMaps.{text_map-none}
use Rattle.fed_json.specs.TextMap.{TextMap}
use Rattle.fed_room.specs.declared.table.Row.{Row}
use Rattle.fed_room.proofs.table.Table.new.Goals as goal

pub returns : goal.returns
returns c = ap (λ (rows : TextMap Row). record { rows = rows; current = c.args.current }) (text_map-none (λ (row : Row). row) c.new.result.entries c.new.ensures.empty)
