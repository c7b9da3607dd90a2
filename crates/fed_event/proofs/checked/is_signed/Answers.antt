use Rattle.std.proofs.Common.{◌∙◌, ap, ap₂}
use Rattle.fed_event.specs.Ids.{domain_of}
use Rattle.fed_event.specs.Signatures.{has_signature}
use Rattle.fed_event.specs.Fields.{sender_of}
use Rattle.fed_event.proofs.checked.is_signed.Goals as goal

pub returns : goal.returns
returns g c =
    let checks = g.K.Keys.checks c.args.keys.now in
    let event = c.args.event.now in
    let server = c.domain.ensures ∙ ap domain_of c.sender.ensures in
    c.is_signed_by.ensures ∙ ap₂ (λ s value. has_signature checks s c.args.signed.now value) server c.json.ensures.value
    ∙ ap (λ text. has_signature checks (domain_of (sender_of event)) text event.value) c.requires
