use Rattle.fed_http.proofs.Stays.{fault_stays}
use Rattle.fed_http.proofs.laws.faults_stay.Goals as goal

pub returns : goal.returns
returns c = fault_stays
