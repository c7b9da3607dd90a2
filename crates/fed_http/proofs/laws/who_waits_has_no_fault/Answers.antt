use Rattle.fed_http.proofs.Verdicts.{fault_never_waits}
use Rattle.fed_http.proofs.laws.who_waits_has_no_fault.Goals as goal

pub returns : goal.returns
returns c = fault_never_waits
