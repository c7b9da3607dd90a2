use Rattle.fed_http.proofs.Cutting.{cutting}
use Rattle.fed_http.proofs.laws.cutting_does_not_matter.Goals as goal

pub returns : goal.returns
returns c = cutting
