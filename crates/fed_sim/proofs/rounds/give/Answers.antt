use Rattle.std.proofs.Common.{arith, refl, ◌∙◌}
use Rattle.fed_sim.specs.Rounds.{GivesOne, never}
use Rattle.fed_sim.specs.RoundsInPart.{GivesAllInPart}
use Rattle.fed_sim.specs.WorldParts.{world_of}
use Rattle.fed_sim.proofs.Servers.{on_error}
use Rattle.fed_sim.proofs.CalmSteps.{one_time}
use Rattle.fed_sim.proofs.rounds.give.Goals as goal

pub loop-init : goal.loop-init
loop-init c = (never, refl)

pub returns-in_err-apply_at-clause-err : goal.returns-in_err-apply_at-clause-err
returns-in_err-apply_at-clause-err c =
    let old = world_of c.args.world.now in
    let part : GivesAllInPart c.args.server c.args.place old (world_of c.apply_at.new.self) = record {
      done = c.loop.counter;
      within = omega (arith, c.loop-test.true, c.queued_at-waiting.ensures);
      between = world_of c.loop.world;
      before = c.loop.invariant.0;
      part = c.in_err-apply_at.ensures.err;
    } in
    on_error c.from_residual.result part

pub loop-preserved : goal.loop-preserved
loop-preserved c =
    (one_time (GivesOne c.args.server c.args.place) _ _ _ _ c.loop.invariant.0 (c.in_ok-apply_at.field-0, c.in_ok-apply_at.ensures.applied), c.in_ok-apply_at.ensures.replies ∙ c.loop.invariant.1)
