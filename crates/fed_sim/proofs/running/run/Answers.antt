use Rattle.std.proofs.lemmas.Result.{err_from_is_err_and}
use Rattle.fed_sim.proofs.OfRuns.{comes_of_run}
use Rattle.fed_sim.proofs.running.run.Goals as goal

pub returns-clause-headline : goal.returns-clause-headline
returns-clause-headline c = c.in_ok-run_on.ensures.headline c.args.setup.now c.in_ok-world.ensures.begins

pub returns-in_err-world-clause-bad_only : goal.returns-in_err-world-clause-bad_only
returns-in_err-world-clause-bad_only c =
    let p = err_from_is_err_and c.from_residual.result c.from_residual.ensures.1 in
    rw (p.1, p.2) c.in_err-world.ensures.bad_only

pub returns-clause-calm : goal.returns-clause-calm
returns-clause-calm c steps replies old is rounds told new does = c.calm_delivers.ensures rounds old new (comes_of_run c.args.setup.now steps replies old is) does.1
