use Rattle.std.proofs.Common.{◌≡◌}
use Rattle.serde_json.specs.Data.{object}
use Rattle.fed_json.specs.CanonicalText.{canonical_text}
use Rattle.fed_json.specs.Members.{members_left}
use Rattle.fed_redaction.specs.Names.{members_of}
use Rattle.fed_redaction.specs.TextsParts.{completed, signed_members, kept_by}
use Rattle.fed_redaction.proofs.signed.signed_object.Given as goal

-- what is left completes the text
abbrev pub invariant-loop-name : goal.invariant-loop-name
invariant-loop-name l =
    completed l.signed (signed_members l.version (kept_by l.rule) (members_of (members_left l.name-iterator)))
    ≡ canonical_text (object (signed_members l.version (kept_by l.rule) (members_of (members_left l.fn.members))))
