-- What redaction leaves of an event (Matrix, room versions 10 and 11, "Redactions"): one rule, and of each version the tables.
use Rattle.std.specs.Prelude.{ℕ, List, [], ◌∷◌, Bool, ◌||◌, Option, Some, None, codes, bytes_eq, if◌then◌else◌, unwrap_or, option_and_then, is_some}
use Rattle.serde_json.specs.Data.{Data, null, boolean, number, string, array, object, Members, no_members}
use Rattle.serde_json.specs.Find.{as_str, as_object, get}
use Rattle.fed_redaction.specs.declared.version.Version.{Version}
use Rattle.fed_redaction.specs.Names.{is_one_of, select, keep, member_if, at_name}
use Rattle.fed_redaction.specs.Version.{Kept, members_under, row_of, event_keys}
use Rattle.fed_redaction.specs.Event.{Event, event_in}

-- what stands beside this type, and no member for a type that the table lacks
abbrev pub kept_beside : List ℕ → List (List ℕ × Kept) → Kept
kept_beside kind [] = members_under []
kept_beside kind (row ∷ rows) = if bytes_eq kind row.0 then row.1 else kept_beside kind rows

-- the type, where there is one that is a text
abbrev pub type_of : Data → Option (List ℕ)
type_of value = option_and_then as_str (get (codes "type") value)

-- what stays of the content, by the type
abbrev pub kept_of : Version → Option (List ℕ) → Kept
kept_of version None = members_under []
kept_of version (Some kind) = kept_beside kind (row_of version).contents

-- an object with the `signed` of this one, where it has one, and nothing else
abbrev pub signed_in : Data → Data
signed_in value = object (member_if (codes "signed") (get (codes "signed") value) no_members)

abbrev pub signed_alone : Data → Option Data
signed_alone value = if is_some (as_object value) then Some (signed_in value) else None

-- the members that stay as they are
abbrev pub stays_whole : Kept → List ℕ → Bool
stays_whole kept name = kept.all || is_one_of kept.keys name

-- what stays of the value of a member, where something does
abbrev pub kept_value : Kept → List ℕ → Data → Option Data
kept_value kept name value = if stays_whole kept name then Some value else if is_one_of kept.signed name then signed_alone value else None

-- the object of what stays of the members; what is no object has none
abbrev pub kept_content : Kept → Data → Data
kept_content kept content = object (keep (kept_value kept) (unwrap_or (as_object content) no_members))

-- the members that stay of an event of whose content this stays
abbrev pub redacted_members : Version → Kept → Members → Members
redacted_members version kept ms = at_name (codes "content") (kept_content kept) (select (is_one_of (event_keys version)) ms)

-- the redaction of a value as an event in a room of this version; what is no object stays as it is
abbrev pub redacted_in : Version → Data → Data
redacted_in version null = null
redacted_in version (boolean b) = boolean b
redacted_in version (number n) = number n
redacted_in version (string s) = string s
redacted_in version (array ds) = array ds
redacted_in version (object ms) = object (redacted_members version (kept_of version (type_of (object ms))) ms)

abbrev pub redacted : Event → Event
redacted event = event_in event.version (redacted_in event.version event.value)
