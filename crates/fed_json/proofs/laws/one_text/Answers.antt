use Rattle.fed_json.proofs.CanonicalTexts.{text_only, text_has}
use Rattle.fed_json.proofs.laws.one_text.Goals as goal

pub returns-clause-has : goal.returns-clause-has
returns-clause-has c d h = text_has d h.whole h.rising

pub returns-clause-no_other : goal.returns-clause-no_other
returns-clause-no_other c = text_only
