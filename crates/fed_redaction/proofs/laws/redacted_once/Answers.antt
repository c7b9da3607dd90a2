use Rattle.fed_redaction.proofs.Redacting.{redacted-redacted}
use Rattle.fed_redaction.proofs.laws.redacted_once.Goals as goal

pub returns : goal.returns
returns c = redacted-redacted
