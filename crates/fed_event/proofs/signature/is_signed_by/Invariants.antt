use Rattle.std.proofs.Common.{◌≡◌}
use Rattle.std.specs.List.{list_any}
use Rattle.fed_json.specs.Members.{members_left}
use Rattle.fed_event.specs.Tests.{holds}
use Rattle.fed_event.specs.Signatures.{signature_in, has_signature}
use Rattle.fed_event.proofs.signature.is_signed_by.Given as goal

-- what is left decides
abbrev pub invariant-loop-key : goal.invariant-loop-key
invariant-loop-key g l = record {
  goes : (goal.iterator-loop-key g).can_next l.key-iterator × (goal.iterator-loop-key g).is_finite l.key-iterator;
  left : has_signature (g.K.Keys.checks l.keys) l.server l.signed l.event
      ≡ list_any (λ entry. holds (g.K.Keys.checks l.keys l.server entry.0 l.signed) (signature_in entry.1)) (members_left l.key-iterator);
}
