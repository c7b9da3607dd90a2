use Rattle.fed_redaction.proofs.IdTexts.{id_text}
use Rattle.fed_redaction.proofs.laws.what_ids_are.Goals as goal

pub returns : goal.returns
returns c = id_text
