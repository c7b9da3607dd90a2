-- What the clauses of private functions say: an object that is written member by member, and the members that a text has.
use Rattle.std.specs.Prelude.{ℕ, List, ◌∷◌, ◌++◌, not, map}
use Rattle.json.specs.Print.{quoted}
use Rattle.serde_json.specs.Data.{Data, Members, no_members, member}
use Rattle.serde_json.specs.Written.{members_text}
use Rattle.fed_json.specs.CanonicalText.{canonical_text}
use Rattle.fed_json.specs.Editing.{with_member}
use Rattle.fed_redaction.specs.Names.{is_one_of, select}
use Rattle.fed_redaction.specs.declared.version.Version.{Version}
use Rattle.fed_redaction.specs.declared.kept.ContentRule.{ContentRule}
use Rattle.fed_redaction.specs.Version.{Kept}
use Rattle.fed_redaction.specs.Redaction.{redacted_members}
use Rattle.fed_redaction.specs.EventId.{unsigned_keys}
use Rattle.fed_redaction.specs.ContentHash.{uncovered_keys}
use Rattle.fed_redaction.specs.declared.object_text.ObjectText.{ObjectText}

-- a member as it is written
abbrev pub member_text : List ℕ → Data → List ℕ
member_text name value = quoted name ++ 58 ∷ canonical_text value

-- the text once these members are written and it is ended
abbrev pub completed : ObjectText → Members → List ℕ
completed object left = object.text.items ++ members_text object.later left

-- the members of an event that the content hash covers, and those that are signed where this stays of its content
abbrev pub covered_members : Members → Members
covered_members ms = select (λ k. not (is_one_of uncovered_keys k)) ms

abbrev pub signed_members : Version → Kept → Members → Members
signed_members version kept ms = select (λ k. not (is_one_of unsigned_keys k)) (redacted_members version kept ms)

-- what a rule for a content keeps
abbrev pub kept_by : ContentRule → Kept
kept_by rule = record { all = rule.all; keys = map (λ key. key.now) rule.keys.now; signed = map (λ key. key.now) rule.signed.now }

-- a value once these members are put into it, one after another
abbrev pub put_all : Members → Data → Data
put_all no_members d = d
put_all (member k v ms) d = put_all ms (with_member k v d)
