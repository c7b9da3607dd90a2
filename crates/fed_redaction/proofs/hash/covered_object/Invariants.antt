use Rattle.std.proofs.Common.{◌≡◌}
use Rattle.serde_json.specs.Data.{object}
use Rattle.fed_json.specs.CanonicalText.{canonical_text}
use Rattle.fed_json.specs.Members.{members_left}
use Rattle.fed_redaction.specs.Names.{members_of}
use Rattle.fed_redaction.specs.TextsParts.{completed, covered_members}
use Rattle.fed_redaction.proofs.hash.covered_object.Given as goal

-- what is left completes the text
abbrev pub invariant-loop-name : goal.invariant-loop-name
invariant-loop-name l =
    completed l.covered (covered_members (members_of (members_left l.name-iterator))) ≡ canonical_text (object (covered_members (members_of (members_left l.fn.members))))
