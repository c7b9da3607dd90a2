use Rattle.fed_json.specs.Items.{left}
use Rattle.fed_c.proofs.StatesMade.{listed_at_once}
use Rattle.fed_c.proofs.states.states_of.Goals as goal

pub loop-value-init : goal.loop-value-init
loop-value-init c = let whole = listed_at_once c.args.graph.now.stored (left c.args.values) in cc
