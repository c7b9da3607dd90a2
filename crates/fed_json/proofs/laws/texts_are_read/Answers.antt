use Rattle.fed_json.proofs.ReadBack.{read-compact_text}
use Rattle.fed_json.proofs.laws.texts_are_read.Goals as goal

pub returns : goal.returns
returns c d h = read-compact_text d h.whole h.rising h.shallow
