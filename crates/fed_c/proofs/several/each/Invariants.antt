use Rattle.std.proofs.Common.{◌≡◌, drop}
use Rattle.fed_c.specs.Several.{cut, of_values}
use Rattle.fed_c.specs.SeveralParts.{maker_of, with_values}
use Rattle.fed_c.proofs.several.each.Given as goal

-- what is left completes the bytes
abbrev pub invariant-loop-len : goal.invariant-loop-len
invariant-loop-len l = of_values (maker_of l.made) (cut l.fn.texts l.lens) ≡ with_values (maker_of l.made) l.bytes.items (cut l.left (drop l.len-index l.lens))
