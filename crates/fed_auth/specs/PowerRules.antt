-- Rule 9 of the authorization rules (Matrix, room version 10, "Authorization rules"): m.room.power_levels.
use Rattle.std.specs.Prelude.{ℕ, ℤ, List, [], ◌∷◌, true, Option, is_none}
use Rattle.serde_json.specs.Data.{Data}
use Rattle.fed_event.specs.Tests.{holds}
use Rattle.fed_auth.specs.LevelChange.{has_other_single, has_other_group, has_other_users, changes_single_above, removes_entry_above, adds_entry_above, removes_user_not_below, adds_user_above}
use Rattle.fed_auth.specs.Table.{Row, rule, allow, reject}

-- by the level and the id of the sender, the content before, where the state has one, and the new one
unfoldable pub power_table : ℤ → List ℕ → Option Data → Data → List Row
power_table level sender old new =
    reject (rule 9 1 0) (has_other_single new)
    ∷ reject (rule 9 2 0) (has_other_group new)
    ∷ reject (rule 9 3 0) (has_other_users new)
    ∷ allow (rule 9 4 0) (is_none old)
    ∷ reject (rule 9 5 0) (holds (λ content. changes_single_above level content new) old)
    ∷ reject (rule 9 6 0) (holds (λ content. removes_entry_above level content new) old)
    ∷ reject (rule 9 7 0) (holds (λ content. adds_entry_above level content new) old)
    ∷ reject (rule 9 8 0) (holds (λ content. removes_user_not_below level sender content new) old)
    ∷ reject (rule 9 9 0) (holds (λ content. adds_user_above level content new) old)
    ∷ allow (rule 9 10 0) true
    ∷ []
