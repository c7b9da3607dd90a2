use Rattle.std.proofs.Common.{◌≡◌}
use Rattle.std.specs.List.{list_all}
use Rattle.fed_json.specs.Items.{left}
use Rattle.fed_event.specs.Tests.{is_text}
use Rattle.fed_event.proofs.validity.are_texts.Given as goal

-- what is left decides
abbrev pub invariant-loop-item : goal.invariant-loop-item
invariant-loop-item l = list_all is_text (left l.fn.items) ≡ list_all is_text (left l.item-iterator)
