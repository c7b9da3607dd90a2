use Rattle.fed_http.proofs.Verdicts.{one_fault}
use Rattle.fed_http.proofs.laws.bytes_have_one_fault.Goals as goal

pub returns : goal.returns
returns c = one_fault
