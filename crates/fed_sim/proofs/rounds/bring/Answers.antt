use Rattle.fed_sim.specs.RoundsInPart.{in_collecting, in_exchange}
use Rattle.fed_sim.proofs.Servers.{on_error}
use Rattle.fed_sim.proofs.rounds.bring.Goals as goal

pub returns-in_err-has_collected-clause-err : goal.returns-in_err-has_collected-clause-err
returns-in_err-has_collected-clause-err c = on_error c.from_residual.result (in_collecting c.in_err-has_collected.ensures.err)

pub returns-in_err-is_answered-clause-err : goal.returns-in_err-is_answered-clause-err
returns-in_err-is_answered-clause-err c =
    on_error c.from_residual-in_err-is_answered.result (in_exchange _ _ c.in_ok-has_collected.ensures.collected c.cut-is_cut.ensures.cut c.in_err-is_answered.ensures.err)
