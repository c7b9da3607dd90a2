use Rattle.fed_redaction.proofs.Redacting.{redacted-dropped, redacted-kept, redacted-content, content-dropped, content-kept}
use Rattle.fed_redaction.proofs.Covering.{object-redacted}
use Rattle.fed_redaction.proofs.laws.what_redaction_keeps.Goals as goal

pub returns-clause-dropped : goal.returns-clause-dropped
returns-clause-dropped c = redacted-dropped

pub returns-clause-kept : goal.returns-clause-kept
returns-clause-kept c = redacted-kept

pub returns-clause-content : goal.returns-clause-content
returns-clause-content c = redacted-content

pub returns-clause-content_dropped : goal.returns-clause-content_dropped
returns-clause-content_dropped c = content-dropped

pub returns-clause-content_kept : goal.returns-clause-content_kept
returns-clause-content_kept c = content-kept

pub returns-clause-object : goal.returns-clause-object
returns-clause-object c = object-redacted
