use Rattle.std.proofs.Common.{◌-◌, length}
use Rattle.fed_http.proofs.TakenBodies.{Walking}
use Rattle.fed_http.proofs.state.State.take_body.Given as goal

abbrev pub invariant-steps : goal.invariant-steps
invariant-steps l = Walking l.fn.self l.self l.rest l.used

abbrev pub decreases-steps : goal.decreases-steps
decreases-steps l = length l.rest - l.used
