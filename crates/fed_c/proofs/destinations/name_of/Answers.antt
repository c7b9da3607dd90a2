use Rattle.std.proofs.Common.{refl, sym, ap, subst, Err}
use Rattle.serde_json.specs.Find.{as_str}
use Rattle.fed_json.specs.JsonRef.{seen}
use Rattle.fed_dest.specs.ServerName.{IsServerName}
use Rattle.fed_c.proofs.Servers.{text_told, is_no_name}
use Rattle.fed_c.proofs.destinations.name_of.Goals as goal

pub returns-in-Ok-clause-name : goal.returns-in-Ok-clause-name
returns-in-Ok-clause-name c = subst IsServerName (sym c.in-Ok.ensures.ok) c.in-Ok.ensures.name

pub returns-in-Err-BadName-clause-fault : goal.returns-in-Err-BadName-clause-fault
returns-in-Err-BadName-clause-fault c = λ _.
    let told = text_told c.text.result c.in_ok-text.text (as_str (seen c.args.value)) c.text.ensures c.in_ok-text.ensures.ok_part in
    (refl, is_no_name (seen c.args.value) c.in_ok-text.text.now told (c.in-Err-BadName.ensures.bad (ap Err c.in-Err-BadName.field-0-is)))
