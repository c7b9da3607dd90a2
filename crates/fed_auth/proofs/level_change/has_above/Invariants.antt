use Rattle.std.proofs.Common.{◌≡◌, ◌&&◌}
use Rattle.std.specs.List.{list_any}
use Rattle.fed_json.specs.JsonRef.{seen, as_whole}
use Rattle.fed_json.specs.Members.{members_left}
use Rattle.fed_auth.specs.LevelChange.{is_changed_in, is_above, has_above}
use Rattle.fed_auth.proofs.level_change.has_above.Given as goal

-- what is left decides
abbrev pub invariant-loop-name : goal.invariant-loop-name
invariant-loop-name l =
    has_above l.level l.group (seen l.one) (seen l.other)
    ≡ list_any (λ entry. is_changed_in l.group (seen l.other) entry && is_above l.level (as_whole entry.1)) (members_left l.name-iterator)
