use Rattle.std.proofs.Common.{◌≡◌, Some, map, ap, sym, ◌∙◌}
use Rattle.std.proofs.lemmas.Result.{IfOk-weaker}
use Rattle.fed_json.specs.Tree.{view}
use Rattle.fed_json.specs.JsonRef.{as_items}
use Rattle.fed_json.proofs.Parts.{list_of-items_of}
use Rattle.fed_json.proofs.Trees.{view-Array}
use Rattle.fed_json.proofs.value.Json.into_items.Goals as goal

pub returns : goal.returns
returns c =
    let values = c.in-Array.values.items in
    let whole : Some (map view values) ≡ as_items c.args.self =
    ap Some (sym (list_of-items_of (map view values))) ∙ ap as_items (sym (view-Array c.in-Array.values) ∙ sym (ap view c.in-Array.is) ∙ c.self.view_is) in
    IfOk-weaker c.wrapped.result _ _ (λ items same. ap Some same ∙ whole) c.wrapped.ensures
