use Rattle.std.proofs.Common.{sym, ◌∙◌}
use Rattle.fed_json.proofs.CanonicalTexts.{text_only}
use Rattle.fed_json.proofs.Injective.{compact_text_injective}
use Rattle.fed_json.proofs.laws.texts_differ.Goals as goal

pub returns : goal.returns
returns c d e s hd he first second = compact_text_injective d e hd.whole he.whole (sym (text_only d s first) ∙ text_only e s second)
