use Rattle.std.proofs.Common.{◌≡◌, ◌<◌}
use Rattle.serde_json.specs.Data.{object, members_depth}
use Rattle.serde_json.specs.Read.{max_depth}
use Rattle.fed_json.specs.Members.{members_left}
use Rattle.fed_redaction.specs.Names.{members_of}
use Rattle.fed_redaction.specs.Redaction.{redacted_members}
use Rattle.fed_redaction.specs.TextsParts.{kept_by, put_all}
use Rattle.fed_redaction.proofs.redaction.redacted_object.Given as goal

-- what is left completes the object
abbrev pub invariant-loop-name : goal.invariant-loop-name
invariant-loop-name l = record {
  goes : (goal.iterator-loop-name).can_next l.name-iterator × (goal.iterator-loop-name).is_finite l.name-iterator;
  low : members_depth (members_of (members_left l.name-iterator)) < max_depth;
  done : put_all (redacted_members l.version (kept_by l.rule) (members_of (members_left l.name-iterator))) l.event
      ≡ object (redacted_members l.version (kept_by l.rule) (members_of (members_left l.fn.members)));
}
