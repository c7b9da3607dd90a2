-- Power levels (Matrix, Client-Server API, "m.room.power_levels"; room version 10, "Authorization rules"). A level is a whole number;
-- what stands at the place of one and is none counts as missing.
use Rattle.std.specs.Prelude.{ℕ, ℤ, pos, List, Option, codes, bytes_eq, is_some, if◌then◌else◌, option_and_then, unwrap_or, refl}
use Rattle.std.specs.Coded.{Coded, code_by, coded×, coded_ℕ, coded_list, coded_option}
use Rattle.serde_json.specs.Data.{Data}
use Rattle.serde_json.specs.Find.{get}
use Rattle.fed_json.specs.Code.{coded_data}
use Rattle.fed_json.specs.JsonRef.{as_whole}
use Rattle.fed_event.specs.Tests.{holds}

-- the content of the power levels event, where there is one, and the creator, where the create event names one
pub record LevelsGiven : Type 0 where
  pub content : Option Data
  pub creator : Option (List ℕ)

abbrev pub levels_code : Coded LevelsGiven
levels_code = code_by (Option Data × Option (List ℕ)) (coded× (coded_option coded_data) (coded_option (coded_list coded_ℕ))) (λ l. (l.content, l.creator)) (λ p. record { content = p.0; creator = p.1 }) (λ _. refl)

-- the whole number under a name of an object
abbrev pub whole_in : List ℕ → Data → Option ℤ
whole_in name value = option_and_then as_whole (get name value)

-- the level of this name, and the one under a name in a group of levels
abbrev pub level_of : List ℕ → LevelsGiven → Option ℤ
level_of name levels = option_and_then (whole_in name) levels.content

abbrev pub entry_level : List ℕ → List ℕ → LevelsGiven → Option ℤ
entry_level group name levels = option_and_then (whole_in name) (option_and_then (get group) levels.content)

abbrev pub level_or : List ℕ → ℤ → LevelsGiven → ℤ
level_or name default levels = unwrap_or (level_of name levels) default

abbrev pub events_default_level : LevelsGiven → ℤ
events_default_level = level_or (codes "events_default") (pos 0)

-- 50, and 0 without a power levels event
abbrev pub state_default_level : LevelsGiven → ℤ
state_default_level levels = level_or (codes "state_default") (if is_some levels.content then pos 50 else pos 0) levels

abbrev pub ban_level : LevelsGiven → ℤ
ban_level = level_or (codes "ban") (pos 50)

abbrev pub kick_level : LevelsGiven → ℤ
kick_level = level_or (codes "kick") (pos 50)

abbrev pub redact_level : LevelsGiven → ℤ
redact_level = level_or (codes "redact") (pos 50)

abbrev pub invite_level : LevelsGiven → ℤ
invite_level = level_or (codes "invite") (pos 0)

-- without a power levels event: 100 of the creator, 0 of every other user
abbrev pub first_level : List ℕ → LevelsGiven → ℤ
first_level user levels = if holds (bytes_eq user) levels.creator then pos 100 else pos 0

-- the entry of `users`, else `users_default`
abbrev pub given_level : List ℕ → LevelsGiven → ℤ
given_level user levels = unwrap_or (entry_level (codes "users") user levels) (level_or (codes "users_default") (pos 0) levels)

unfoldable pub user_level : LevelsGiven → List ℕ → ℤ
user_level levels user = if is_some levels.content then given_level user levels else first_level user levels

-- the entry of `events` for the type, else the default by whether there is a state key
unfoldable pub required_level : LevelsGiven → List ℕ → Option (List ℕ) → ℤ
required_level levels kind state_key =
    unwrap_or (entry_level (codes "events") kind levels) (if is_some state_key then state_default_level levels else events_default_level levels)
