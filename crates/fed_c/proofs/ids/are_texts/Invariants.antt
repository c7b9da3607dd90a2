use Rattle.std.proofs.Common.{◌≡◌}
use Rattle.fed_json.specs.Items.{left}
use Rattle.fed_c.specs.Ids.{are_texts}
use Rattle.fed_c.proofs.ids.are_texts.Given as goal

-- what is left decides
abbrev pub invariant-loop-item : goal.invariant-loop-item
invariant-loop-item l = are_texts (left l.fn.items) ≡ are_texts (left l.item-iterator)
