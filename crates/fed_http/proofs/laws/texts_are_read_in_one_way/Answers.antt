use Rattle.fed_http.proofs.TextLemmas.{text_unique}
use Rattle.fed_http.proofs.laws.texts_are_read_in_one_way.Goals as goal

pub returns : goal.returns
returns c = text_unique
