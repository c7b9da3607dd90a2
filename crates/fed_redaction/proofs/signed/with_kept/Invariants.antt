use Rattle.std.proofs.Common.{◌≡◌, ◌++◌}
use Rattle.serde_json.specs.Data.{object}
use Rattle.fed_json.specs.CanonicalText.{canonical_text}
use Rattle.fed_json.specs.Members.{members_left}
use Rattle.fed_redaction.specs.Names.{keep, members_of}
use Rattle.fed_redaction.specs.Redaction.{kept_value}
use Rattle.fed_redaction.specs.TextsParts.{completed, kept_by}
use Rattle.fed_redaction.proofs.signed.with_kept.Given as goal

-- what is left completes the text
abbrev pub invariant-loop-name : goal.invariant-loop-name
invariant-loop-name l =
    completed l.kept (keep (kept_value (kept_by l.rule)) (members_of (members_left l.name-iterator)))
    ≡ l.fn.text.items ++ canonical_text (object (keep (kept_value (kept_by l.rule)) (members_of (members_left l.fn.members))))
