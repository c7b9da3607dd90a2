use Rattle.std.proofs.Common.{◌≡◌}
use Rattle.fed_json.specs.Items.{left}
use Rattle.fed_c.specs.History.{is_among}
use Rattle.fed_c.proofs.history.is_among.Given as goal

-- what is left decides
abbrev pub invariant-loop-item : goal.invariant-loop-item
invariant-loop-item l = is_among (left l.fn.items) l.id ≡ is_among (left l.item-iterator) l.id
