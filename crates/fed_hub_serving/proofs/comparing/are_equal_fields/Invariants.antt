use Rattle.std.proofs.Common.{◌≡◌, ◌↔◌, drop}
use Rattle.std.specs.Slice.Iter.{iter_rest}
use Rattle.fed_hub_serving.proofs.comparing.are_equal_fields.Given as goal

-- what is left decides
abbrev pub invariant-loop-field : goal.invariant-loop-field
invariant-loop-field l = (l.some ≡ l.others) ↔ (drop l.field-index l.some ≡ iter_rest l.left)
