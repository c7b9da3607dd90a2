use Rattle.std.proofs.Common.{map}
use Rattle.serde_json.specs.Data.{string}
use Rattle.fed_c.specs.Destinations.{sent_to}
use Rattle.fed_c.proofs.ListedItems.{all_listed}
use Rattle.fed_c.proofs.destinations.sent_to.Goals as goal

pub loop-server-init : goal.loop-server-init
loop-server-init c = let whole = all_listed (map string (sent_to c.args.held.now c.args.servers.now c.args.own.now)) in cc
