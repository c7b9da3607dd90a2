use Rattle.std.proofs.Common.{ℕ, List, ap, ◌∙◌}
use Rattle.std.specs.FinMap as finite
use Rattle.fed_json.specs.TextMap.{TextMap}
use Rattle.fed_room_contract.proofs.TextUpdates.{text_map-removes}
use Rattle.fed_room_contract.proofs.keyed.Keyed.remove.Goals as goal

pub returns : goal.returns
returns c =
    text_map-removes (λ (id : List ℕ). id) c.self.inside.ids c.remove.new.self c.args.key.now c.self.invariant c.remove.ensures.ordered c.remove.ensures.updates
    ∙ ap (λ (m : TextMap (List ℕ)). finite.remove m c.args.key.now) c.self.view_is
