use Rattle.fed_http.proofs.TextLemmas.{fault_excludes}
use Rattle.fed_http.proofs.laws.faults_are_final.Goals as goal

pub returns : goal.returns
returns c = fault_excludes
