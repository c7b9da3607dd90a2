use Rattle.std.proofs.Common.{refl, ◌∙◌}
use Rattle.fed_sim.specs.Rounds.{IsRound, never}
use Rattle.fed_sim.specs.RoundsInPart.{AreRoundsInPart}
use Rattle.fed_sim.specs.WorldParts.{world_of}
use Rattle.fed_sim.proofs.Servers.{on_error}
use Rattle.fed_sim.proofs.CalmSteps.{one_time, idle_rounds, all_rounds}
use Rattle.fed_sim.proofs.Delivering.{delivers_of_some}
use Rattle.fed_sim.proofs.rounds.calm.Goals as goal

pub loop-init : goal.loop-init
loop-init c = (never, refl)

pub returns-in_err-calm_round-clause-err : goal.returns-in_err-calm_round-clause-err
returns-in_err-calm_round-clause-err c =
    let part : AreRoundsInPart c.args.rounds (world_of c.args.world.now) (world_of c.calm_round.new.world) = record {
      done = c.loop.counter;
      within = c.loop-test.true;
      between = world_of c.loop.world;
      before = c.loop.invariant.0;
      part = c.in_err-calm_round.ensures.err;
    } in
    on_error c.from_residual.result part

pub returns-then-not-branch-clause-rounds : goal.returns-then-not-branch-clause-rounds
returns-then-not-branch-clause-rounds c =
    idle_rounds c.args.rounds _ _ _ _ c.loop-test.true c.loop.invariant.0 c.in_ok-calm_round.ensures.round (c.in_ok-calm_round.ensures.idle c.if-not-branch.true)

pub loop-preserved : goal.loop-preserved
loop-preserved c = (one_time IsRound _ _ _ _ c.loop.invariant.0 c.in_ok-calm_round.ensures.round, c.in_ok-calm_round.ensures.replies ∙ c.loop.invariant.1)

pub returns-then-not-branch-clause-delivered : goal.returns-then-not-branch-clause-delivered
returns-then-not-branch-clause-delivered c =
    delivers_of_some c.calm_delivers.ensures c.args.rounds _ _ c.args.world.now.comes
    (idle_rounds c.args.rounds _ _ _ _ c.loop-test.true c.loop.invariant.0 c.in_ok-calm_round.ensures.round (c.in_ok-calm_round.ensures.idle c.if-not-branch.true))

pub returns-clause-delivered : goal.returns-clause-delivered
returns-clause-delivered c =
    delivers_of_some c.calm_delivers.ensures c.args.rounds _ _ c.args.world.now.comes (all_rounds c.loop.counter c.args.rounds _ _ c.loop.auto.counter-end c.loop-test.false c.loop.invariant.0)
