use Rattle.std.proofs.Common.{sym, ap, ◌∙◌}
use Rattle.fed_redaction.specs.Event.{event_in}
use Rattle.fed_redaction.specs.EventId.{event_id_of}
use Rattle.fed_event.specs.Tests.{first_fault_of}
use Rattle.fed_redaction.proofs.Redacting.{event_id_of-redacted}
use Rattle.fed_event.proofs.RedactionPasses.{redacted-passes}
use Rattle.fed_event.proofs.pdu.Pdu.redacted.Goals as goal

pub invariant_of-result : goal.invariant_of-result
invariant_of-result c =
    let version = c.self.inside.version in
    let json = c.self.inside.json in
    let whole = c.in_ok-json.ensures.redacted in (
      ap first_fault_of whole ∙ redacted-passes version json c.in_ok-json.ensures.profile.rising c.self.invariant.0,
      c.in_ok-id.ensures ∙ c.self.invariant.1 ∙ sym (event_id_of-redacted (event_in version json)) ∙ sym (ap (λ value. event_id_of (event_in version value)) whole),
      c.hash_fits-hash_fits.ensures,
    )
