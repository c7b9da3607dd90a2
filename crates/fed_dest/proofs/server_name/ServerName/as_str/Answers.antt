use Rattle.std.proofs.Common.{subst}
use Rattle.fed_dest.specs.ServerName.{IsServerName}
use Rattle.fed_dest.proofs.server_name.ServerName.as_str.Goals as goal

pub returns-clause-name : goal.returns-clause-name
returns-clause-name c = subst IsServerName c.self.view_is c.self.invariant
