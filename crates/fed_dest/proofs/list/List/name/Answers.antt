use Rattle.std.proofs.Common.{sym, subst}
use Rattle.fed_dest.specs.ServerName.{IsServerName}
use Rattle.fed_dest.proofs.list.List.name.Goals as goal

pub returns-clause-name : goal.returns-clause-name
returns-clause-name c = subst IsServerName (sym c.as_str.ensures.text) c.as_str.ensures.name
