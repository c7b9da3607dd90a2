use Rattle.std.proofs.Common.{◌≡◌, map, drop}
use Rattle.std.specs.List.{list_any}
use Rattle.fed_json.specs.JsonRef.{seen}
use Rattle.fed_auth.specs.LevelChange.{is_single_above, changes_single_above}
use Rattle.fed_auth.proofs.level_change.changes_single_above.Given as goal

-- what is left decides
abbrev pub invariant-loop-name : goal.invariant-loop-name
invariant-loop-name l = changes_single_above l.level (seen l.old) (seen l.new) ≡ list_any (is_single_above l.level (seen l.old) (seen l.new)) (map (λ name. name.now) (drop l.name-index l.name-items))
