use Rattle.fed_redaction.proofs.Redacting.{signed_part-redacted, event_id_of-redacted}
use Rattle.fed_redaction.proofs.laws.ids_of_redactions.Goals as goal

pub returns-clause-signed : goal.returns-clause-signed
returns-clause-signed c = signed_part-redacted

pub returns-clause-id : goal.returns-clause-id
returns-clause-id c = event_id_of-redacted
