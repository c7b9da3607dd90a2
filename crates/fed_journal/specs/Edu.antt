-- Ephemeral data units that are offered (Matrix, Server-Server API, "EDUs").
use Rattle.std.specs.Prelude.{ℕ, List, Bool, ◌&&◌, not, is_some, nat_lt, codes, length, Option, Some, None, option_and_then, if◌then◌else◌}
use Rattle.serde_json.specs.Data.{Data, depth}
use Rattle.serde_json.specs.Find.{get, as_str, as_object}
use Rattle.fed_json.specs.CanonicalText.{canonical_text}
use Rattle.fed_journal.specs.declared.edu.EduFault.{EduFault}
use Rattle.fed_journal.specs.declared.edu.EduFault.TheVariants.{BadEdu, TooLarge, TooDeep}

-- an object with a text `edu_type` and an object `content`
abbrev pub is_edu : Data → Bool
is_edu value = is_some (option_and_then as_str (get (codes "edu_type") value)) && is_some (option_and_then as_object (get (codes "content") value))

-- the most bytes of the text of one that is offered, and the most levels (this project's choice: with them a receiver can read the body)
abbrev pub max_edu : ℕ
max_edu = 65536

abbrev pub max_edu_depth : ℕ
max_edu_depth = 100

-- why a value is not offered as one: the first of these that holds
abbrev pub edu_fault_of : Data → Option EduFault
edu_fault_of value =
    if not (is_edu value) then Some BadEdu
    else if nat_lt max_edu (length (canonical_text value)) then Some TooLarge
    else if nat_lt max_edu_depth (depth value) then Some TooDeep
    else None
