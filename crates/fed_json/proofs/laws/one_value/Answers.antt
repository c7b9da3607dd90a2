use Rattle.fed_json.proofs.Equal.{value_by_texts}
use Rattle.fed_json.proofs.laws.one_value.Goals as goal

pub returns : goal.returns
returns c d e = value_by_texts d e
