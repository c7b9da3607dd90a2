use Rattle.std.proofs.Common.{◌≡◌, drop}
use Rattle.fed_auth.specs.SelectionKey.{all_seen}
use Rattle.fed_c.specs.Selection.{selected}
use Rattle.fed_c.specs.SelectionParts.{with_keys}
use Rattle.fed_c.proofs.selection.selected.Given as goal

-- what is left completes the array
abbrev pub invariant-loop-key : goal.invariant-loop-key
invariant-loop-key l = selected l.event ≡ with_keys l.list (all_seen (drop l.key-index l.key-items))
