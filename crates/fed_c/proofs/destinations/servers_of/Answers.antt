use Rattle.fed_json.specs.Items.{left}
use Rattle.fed_json.specs.JsonRef.{as_items}
use Rattle.fed_c.specs.Values.{value_of}
use Rattle.fed_c.proofs.Servers.{items_told, ok_servers, no_servers}
use Rattle.fed_c.proofs.destinations.servers_of.Goals as goal

pub returns-clause-ok : goal.returns-clause-ok
returns-clause-ok c =
    let json = c.in_ok-json.json in
    let listed = items_told left c.items.result c.in_ok-items.items (as_items json) c.items.ensures c.in_ok-items.ensures.ok_part in
    ok_servers (value_of c.args.text.now) json (left c.in_ok-items.items) c.in_ok-json.ensures.ok listed c.names_of.result (λ names. names.items) c.names_of.ensures.ok

pub returns-clause-fault : goal.returns-clause-fault
returns-clause-fault c =
    let json = c.in_ok-json.json in
    let listed = items_told left c.items.result c.in_ok-items.items (as_items json) c.items.ensures c.in_ok-items.ensures.ok_part in
    no_servers (value_of c.args.text.now) json (left c.in_ok-items.items) c.in_ok-json.ensures.ok listed c.names_of.result c.names_of.ensures.fault
