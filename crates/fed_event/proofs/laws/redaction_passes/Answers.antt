use Rattle.fed_event.proofs.RedactionPasses.{redacted-passes}
use Rattle.fed_event.proofs.laws.redaction_passes.Goals as goal

pub returns : goal.returns
returns c version d profile = redacted-passes version d profile.rising
