use Rattle.std.proofs.Common.{◌≡◌}
use Rattle.std.specs.List.{list_all}
use Rattle.fed_json.specs.Members.{members_left}
use Rattle.fed_auth.specs.LevelChange.{is_user_entry}
use Rattle.fed_auth.proofs.level_change.are_users.Given as goal

-- what is left decides
abbrev pub invariant-loop-user : goal.invariant-loop-user
invariant-loop-user l = list_all is_user_entry (members_left l.fn.entries) ≡ list_all is_user_entry (members_left l.user-iterator)
