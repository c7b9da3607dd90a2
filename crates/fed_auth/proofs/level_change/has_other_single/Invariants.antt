use Rattle.std.proofs.Common.{◌≡◌, map, drop}
use Rattle.std.specs.List.{list_any}
use Rattle.fed_json.specs.JsonRef.{seen}
use Rattle.fed_auth.specs.LevelChange.{is_other_kind, has_other_single}
use Rattle.fed_auth.proofs.level_change.has_other_single.Given as goal

-- what is left decides
abbrev pub invariant-loop-name : goal.invariant-loop-name
invariant-loop-name l = has_other_single (seen l.new) ≡ list_any (is_other_kind (seen l.new)) (map (λ name. name.now) (drop l.name-index l.name-items))
