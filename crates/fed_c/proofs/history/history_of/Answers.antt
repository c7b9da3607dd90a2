use Rattle.std.proofs.Common.{◌≡◌, [], ap}
use Rattle.fed_json.specs.Items.{left}
use Rattle.fed_c.proofs.Histories.{all_stored_at_once}
use Rattle.fed_c.proofs.history.history_of.Goals as goal

pub loop-value-init : goal.loop-value-init
loop-value-init c =
    let whole = all_stored_at_once c.args.version c.args.rejected.now (left c.args.events) in
    let none : c.new-graph.result.stored ≡ [] = ap (λ graph. graph.stored) c.new-graph.ensures in
    cc
