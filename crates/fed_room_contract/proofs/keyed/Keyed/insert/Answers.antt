use Rattle.std.proofs.Common.{ℕ, List, ap, ◌∙◌}
use Rattle.std.specs.FinMap as finite
use Rattle.fed_json.specs.TextMap.{TextMap, text_map}
use Rattle.fed_json.proofs.TextMaps.{text_map-insert}
use Rattle.fed_room_contract.proofs.keyed.Keyed.insert.Goals as goal

pub returns-clause-ok : goal.returns-clause-ok
returns-clause-ok c =
    let old = c.self.inside.ids in
    let entered = text_map-insert (λ (id : List ℕ). id) old.entries c.insert.new.self.entries c.in_ok-key.key c.args.id c.self.invariant c.in_ok-insert.ensures.ordered c.in_ok-insert.ensures.entries in
    entered ∙ ap (λ k. finite.insert (text_map (λ (id : List ℕ). id) old.entries) k c.args.id) c.in_ok-key.ensures.ok ∙ ap (λ (m : TextMap (List ℕ)). finite.insert m c.args.key.now c.args.id) c.self.view_is
