use Rattle.std.proofs.Common.{◌≡◌}
use Rattle.std.specs.List.{list_all}
use Rattle.fed_json.specs.Members.{members_left}
use Rattle.fed_auth.specs.LevelChange.{is_level_entry}
use Rattle.fed_auth.proofs.level_change.are_levels.Given as goal

-- what is left decides
abbrev pub invariant-loop-value : goal.invariant-loop-value
invariant-loop-value l = list_all is_level_entry (members_left l.fn.entries) ≡ list_all is_level_entry (members_left l.value-iterator)
