use Rattle.std.proofs.Common.{◌≡◌, ◌&&◌, not, bytes_eq, codes}
use Rattle.std.specs.List.{list_any}
use Rattle.fed_json.specs.JsonRef.{seen, as_whole}
use Rattle.fed_json.specs.Members.{members_left}
use Rattle.fed_auth.specs.LevelChange.{is_changed_in, is_not_below, removes_user_not_below}
use Rattle.fed_auth.proofs.level_change.removes_user_not_below.Given as goal

-- what is left decides
abbrev pub invariant-loop-user : goal.invariant-loop-user
invariant-loop-user l =
    removes_user_not_below l.level l.sender (seen l.old) (seen l.new)
    ≡ list_any (λ entry. not (bytes_eq entry.0 l.sender) && (is_changed_in (codes "users") (seen l.new) entry && is_not_below l.level (as_whole entry.1))) (members_left l.user-iterator)
