-- What a power levels event may change (Matrix, room version 10, "Authorization rules", rule 9): conditions over the contents of the
-- event and of the power levels event before it, and the sender's level. Of the content before, what stands at the place of a level
-- and is none counts as missing.
use Rattle.std.specs.Prelude.{ℕ, ℤ, int_lt, List, [], ◌∷◌, Bool, not, ◌&&◌, ◌||◌, Option, codes, bytes_eq, option_and_then, unwrap_or}
use Rattle.std.specs.Option.{option_eq}
use Rattle.std.specs.Ordering.{int_eq}
use Rattle.std.specs.List.{list_any, list_all}
use Rattle.serde_json.specs.Data.{Data}
use Rattle.serde_json.specs.Find.{get}
use Rattle.fed_json.specs.JsonRef.{as_whole, as_members}
use Rattle.fed_event.specs.Tests.{holds, is_whole_number}
use Rattle.fed_event.specs.Ids.{is_user_id}
use Rattle.fed_auth.specs.Levels.{whole_in}

-- the levels that stand alone: the defaults, and those of actions; and the groups of levels
abbrev pub single_names : List (List ℕ)
single_names =
    codes "users_default"
    ∷ codes "events_default"
    ∷ codes "state_default"
    ∷ codes "ban"
    ∷ codes "redact"
    ∷ codes "kick"
    ∷ codes "invite"
    ∷ []

abbrev pub group_names : List (List ℕ)
group_names = codes "events" ∷ codes "notifications" ∷ []

-- the entries of a group, by name; none where it is missing or no object
abbrev pub entries_in : List ℕ → Data → List (List ℕ × Data)
entries_in group content = unwrap_or (option_and_then as_members (get group content)) []

-- ---- kinds

-- there, and no whole number
abbrev pub is_other_kind : Data → List ℕ → Bool
is_other_kind content name = holds (λ value. not (is_whole_number value)) (get name content)

-- there, and no object whose entries all pass the test
abbrev pub is_other_group : (List ℕ × Data → Bool) → Data → List ℕ → Bool
is_other_group test content group = holds (λ value. not (holds (list_all test) (as_members value))) (get group content)

abbrev pub is_level_entry : List ℕ × Data → Bool
is_level_entry entry = is_whole_number entry.1

abbrev pub is_user_entry : List ℕ × Data → Bool
is_user_entry entry = is_user_id entry.0 && is_whole_number entry.1

-- one of the levels that stand alone is no whole number
unfoldable pub has_other_single : Data → Bool
has_other_single new = list_any (is_other_kind new) single_names

-- `events` or `notifications` is no object of whole numbers
unfoldable pub has_other_group : Data → Bool
has_other_group new = list_any (is_other_group is_level_entry new) group_names

-- `users` is no object from user ids to whole numbers
unfoldable pub has_other_users : Data → Bool
has_other_users new = is_other_group is_user_entry new (codes "users")

-- ---- changes

abbrev pub differs : Option ℤ → Option ℤ → Bool
differs one other = not (option_eq int_eq one other)

abbrev pub is_above : ℤ → Option ℤ → Bool
is_above level value = holds (int_lt level) value

abbrev pub is_not_below : ℤ → Option ℤ → Bool
is_not_below level value = holds (λ v. not (int_lt v level)) value

-- the other content has another level or none in its place in the group
abbrev pub is_changed_in : List ℕ → Data → List ℕ × Data → Bool
is_changed_in group other entry = differs (as_whole entry.1) (option_and_then (whole_in entry.0) (get group other))

-- the level of this name differs, and the old or the new one is above the sender's
unfoldable pub is_single_above : ℤ → Data → Data → List ℕ → Bool
is_single_above level old new name =
    differs (whole_in name old) (whole_in name new) && (is_above level (whole_in name old) || is_above level (whole_in name new))

-- some entry of the group in the one content that the other has not, and that is above the sender's level
unfoldable pub has_above : ℤ → List ℕ → Data → Data → Bool
has_above level group one other = list_any (λ entry. is_changed_in group other entry && is_above level (as_whole entry.1)) (entries_in group one)

-- a level that stands alone is added, changed or removed, and the old or the new one is above the sender's
unfoldable pub changes_single_above : ℤ → Data → Data → Bool
changes_single_above level old new = list_any (is_single_above level old new) single_names

-- an entry of `events` or `notifications` that was above the sender's level is changed or removed
unfoldable pub removes_entry_above : ℤ → Data → Data → Bool
removes_entry_above level old new = list_any (λ group. has_above level group old new) group_names

-- one that is above it is added, or made of another
unfoldable pub adds_entry_above : ℤ → Data → Data → Bool
adds_entry_above level old new = list_any (λ group. has_above level group new old) group_names

-- an entry of `users` for another user than the sender that was not below the sender's level is changed or removed
unfoldable pub removes_user_not_below : ℤ → List ℕ → Data → Data → Bool
removes_user_not_below level sender old new =
    list_any (λ entry. not (bytes_eq entry.0 sender) && (is_changed_in (codes "users") new entry && is_not_below level (as_whole entry.1))) (entries_in (codes "users") old)

-- an entry of `users` that is above it is added, or made of another
unfoldable pub adds_user_above : ℤ → Data → Data → Bool
adds_user_above level old new = has_above level (codes "users") new old
