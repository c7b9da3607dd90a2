use Rattle.std.proofs.Common.{◌≡◌}
use Rattle.serde_json.specs.Data.{object}
use Rattle.fed_json.specs.CanonicalText.{canonical_text}
use Rattle.fed_json.specs.Members.{members_left}
use Rattle.fed_redaction.specs.Names.{members_of}
use Rattle.fed_redaction.specs.TextsParts.{completed, covered_members, signed_members, kept_by}
use Rattle.fed_redaction.proofs.texts.texts_of_members.Given as goal

-- what is left completes each text
abbrev pub invariant-loop-name : goal.invariant-loop-name
invariant-loop-name l =
    let left = members_of (members_left l.name-iterator) in
    let all = members_of (members_left l.fn.members) in
    let kept = kept_by l.rule in
    (completed l.whole left ≡ canonical_text (object all))
    × (completed l.signed (signed_members l.version kept left) ≡ canonical_text (object (signed_members l.version kept all)))
    × (completed l.covered (covered_members left) ≡ canonical_text (object (covered_members all)))
