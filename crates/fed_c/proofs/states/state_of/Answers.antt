use Rattle.fed_json.specs.Items.{left}
use Rattle.fed_c.proofs.StatesMade.{named_at_once}
use Rattle.fed_c.proofs.states.state_of.Goals as goal

pub loop-id-init : goal.loop-id-init
loop-id-init c = let whole = named_at_once c.args.graph.now.stored (left c.args.ids) in cc
