use Rattle.std.proofs.Common.{◌≡◌, ℕ, List, Option, None, Some, option_map, refl, sym, ap, ◌∙◌}
use Rattle.std.specs.FinMap as finite
use Rattle.fed_json.specs.TextMap.{TextMap}
use Rattle.fed_json.proofs.TextMaps.{get-text_map}
use Rattle.fed_room_contract.proofs.keyed.Keyed.get.Goals as goal

unchanged : (o : Option (List ℕ)) → o ≡ option_map (λ x. x) o
unchanged None = refl
unchanged (Some x) = refl

pub returns : goal.returns
returns c =
    c.get.ensures.value ∙ unchanged _ ∙ sym (get-text_map (λ (id : List ℕ). id) c.self.inside.ids.entries c.self.invariant c.args.key.now)
    ∙ ap (λ (m : TextMap (List ℕ)). finite.get m c.args.key.now) c.self.view_is
