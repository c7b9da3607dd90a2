use Rattle.fed_sim.specs.RoundsInPart.{in_bringing, in_giving}
use Rattle.fed_sim.proofs.Servers.{on_error}
use Rattle.fed_sim.proofs.rounds.calm_round.Goals as goal

pub returns-in_err-has_brought-clause-err : goal.returns-in_err-has_brought-clause-err
returns-in_err-has_brought-clause-err c = on_error c.from_residual.result (in_bringing c.in_err-has_brought.ensures.err)

pub returns-in_err-has_given-clause-err : goal.returns-in_err-has_given-clause-err
returns-in_err-has_given-clause-err c = on_error c.from_residual-in_err-has_given.result (in_giving _ c.in_ok-has_brought.ensures.brought c.in_err-has_given.ensures.err)
