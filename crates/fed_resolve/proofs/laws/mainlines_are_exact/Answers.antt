use Rattle.fed_resolve.proofs.Reached.{mainline-is, position-is}
use Rattle.fed_resolve.proofs.laws.mainlines_are_exact.Goals as goal

pub returns : goal.returns
returns c = record { line = λ events levels graph within. mainline-is events graph levels within; position = λ events line place graph. position-is events line place graph }
