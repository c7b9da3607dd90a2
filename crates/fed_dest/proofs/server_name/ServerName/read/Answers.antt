use Rattle.std.proofs.Common.{sym, subst}
use Rattle.fed_dest.specs.ServerName.{IsServerName}
use Rattle.fed_dest.proofs.server_name.ServerName.read.Goals as goal

pub invariant_of-result : goal.invariant_of-result
invariant_of-result c = subst IsServerName (sym c.in_ok-text.ensures.ok) (c.is_server_name.ensures.0 c.if-not-is_server_name.false)
