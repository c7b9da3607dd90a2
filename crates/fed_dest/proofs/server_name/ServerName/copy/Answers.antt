use Rattle.std.proofs.Common.{sym, ◌∙◌, subst}
use Rattle.fed_dest.specs.ServerName.{IsServerName}
use Rattle.fed_dest.proofs.server_name.ServerName.copy.Goals as goal

pub invariant_of-result : goal.invariant_of-result
invariant_of-result c = subst IsServerName (sym (c.in_ok-text.ensures.ok ∙ c.as_str.ensures.text)) c.as_str.ensures.name
