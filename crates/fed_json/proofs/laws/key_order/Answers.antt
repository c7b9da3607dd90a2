use Rattle.fed_json.proofs.KeyOrder.{chars_order}
use Rattle.fed_json.proofs.laws.key_order.Goals as goal

pub returns : goal.returns
returns c = chars_order
