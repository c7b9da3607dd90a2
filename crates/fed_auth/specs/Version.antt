-- Which room versions are known (Matrix, "Room versions").
use Rattle.std.specs.Prelude.{ℕ, List, Bool, is_some}
use Rattle.fed_event.specs.Version.{version_named}

abbrev pub is_known_version : List ℕ → Bool
is_known_version name = is_some (version_named name)
