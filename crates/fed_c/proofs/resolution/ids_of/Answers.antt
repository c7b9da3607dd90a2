use Rattle.std.proofs.Common.{◌∙◌, ap, map}
use Rattle.fed_room_contract.specs.Entry.{seen}
use Rattle.fed_c.proofs.Rooms.{ids_listed}
use Rattle.fed_c.proofs.resolution.ids_of.Goals as goal

pub loop-entry-init : goal.loop-entry-init
loop-entry-init c =
    ids_listed c.args.state.now c.empty_array-ids.result c.deref-entry-items.result.now c.empty_array-ids.ensures (ap (map seen) c.deref-entry-items.ensures.value ∙ c.in_ok-entries.ensures)
