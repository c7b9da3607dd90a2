use Rattle.std.proofs.Common.{arith, length, refl, ◌∙◌}
use Rattle.fed_sim.specs.Rounds.{CollectsOne, queue_at, never}
use Rattle.fed_sim.specs.RoundsInPart.{TimesInPart, IsRefused}
use Rattle.fed_sim.specs.WorldParts.{world_of}
use Rattle.fed_sim.proofs.Servers.{on_error}
use Rattle.fed_sim.proofs.CalmSteps.{one_time}
use Rattle.fed_sim.proofs.rounds.collect_all.Goals as goal

pub loop-init : goal.loop-init
loop-init c = (never, refl)

pub returns-in_err-collect-clause-err : goal.returns-in_err-collect-clause-err
returns-in_err-collect-clause-err c =
    let old = world_of c.args.world.now in
    let part : TimesInPart (CollectsOne c.args.server c.args.dest) IsRefused old (length (queue_at old c.args.server c.args.dest)) (world_of c.collect.new.self) = record {
      done = c.loop.counter;
      within = omega (arith, c.loop-test.true, c.queued-waiting.ensures);
      between = world_of c.loop.world;
      before = c.loop.invariant.0;
      part = c.in_err-collect.ensures.err;
    } in
    on_error c.from_residual.result part

pub loop-preserved : goal.loop-preserved
loop-preserved c =
    (one_time (CollectsOne c.args.server c.args.dest) _ _ _ _ c.loop.invariant.0 (c.in_ok-collect.field-0, c.in_ok-collect.ensures.collected), c.in_ok-collect.ensures.replies ∙ c.loop.invariant.1)
