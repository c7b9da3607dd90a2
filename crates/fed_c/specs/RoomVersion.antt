-- The versions of rooms by the numbers that C gives (Matrix, "Room versions").
use Rattle.std.specs.Prelude.{◌==◌, ℕ, List, if◌then◌else◌, Result, Ok, Err}
use Rattle.fed_redaction.specs.declared.version.Version.{Version}
use Rattle.fed_redaction.specs.declared.version.Version.TheVariants.{V10, V11}
use Rattle.fed_c.specs.declared.status.Status.{Status}
use Rattle.fed_c.specs.declared.status.Status.TheVariants.{BadVersion}
use Rattle.fed_c.specs.Results.{and_then}

-- the version of this number; 10 and 11 are known
abbrev pub version_in : ℕ → Result Version Status
version_in number = if number == 10 then Ok V10 else if number == 11 then Ok V11 else Err BadVersion

-- what a call answers in a room of the version of this number: any other number is refused, whatever else is given
abbrev pub by_version : ℕ → (Version → Result (List ℕ) Status) → Result (List ℕ) Status
by_version number answer = and_then (version_in number) answer
