use Rattle.std.proofs.Common.{◌≡◌, drop, map}
use Rattle.serde_json.specs.Data.{string}
use Rattle.fed_c.specs.Destinations.{sent_to, texts_value}
use Rattle.fed_c.specs.ListParts.{with_items}
use Rattle.fed_c.proofs.destinations.sent_to.Given as goal

-- what is left completes the array
abbrev pub invariant-loop-server : goal.invariant-loop-server
invariant-loop-server l = texts_value (sent_to l.held l.servers l.own) ≡ with_items l.names (map string (sent_to l.held (drop l.server-index l.servers) l.own))
