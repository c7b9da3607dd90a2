use Rattle.std.proofs.Common.{length}
use Rattle.fed_hub.proofs.Shut.{is_shut_then}
use Rattle.fed_hub.proofs.was_shut.shut_down.Goals as goal

pub returns : goal.returns
returns g c = is_shut_then (length g.N.Naming.wires) g.N.Naming.own c.args.journal.now c.shut_down.new.journal c.shut_down.result c.shut_down.ensures.shut c.in_ok-shut_down.was
