use Rattle.std.proofs.Common.{Some, map, ap, sym, ◌∙◌}
use Rattle.fed_json.specs.Tree.{view}
use Rattle.fed_json.specs.JsonRef.{as_items}
use Rattle.fed_json.proofs.Parts.{list_of-items_of}
use Rattle.fed_json.proofs.Trees.{view-Array}
use Rattle.fed_json.proofs.json_ref.JsonRef.items.Goals as goal

pub returns-in-Array : goal.returns-in-Array
returns-in-Array c =
    let values = c.in-Array.items.items in
    ap Some (c.new.ensures ∙ ap (map view) c.deref.ensures.value ∙ sym (list_of-items_of (map view values))) ∙ ap as_items (sym (ap view c.in-Array.is ∙ view-Array c.in-Array.items))
