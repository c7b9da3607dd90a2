use Rattle.std.proofs.Common.{arith, length, refl, ◌∙◌, subst}
use Rattle.fed_sim.specs.Rounds.{BringsFrom, for_none}
use Rattle.fed_sim.specs.RoundsInPart.{ForEachInPart, BringsFromInPart}
use Rattle.fed_sim.specs.WorldParts.{world_of}
use Rattle.fed_sim.proofs.Servers.{on_error}
use Rattle.fed_sim.proofs.CalmSteps.{one_place, idle_still}
use Rattle.fed_sim.proofs.rounds.bring_all.Goals as goal

pub loop-place-init : goal.loop-place-init
loop-place-init c = (for_none, λ _. refl, refl)

pub returns-in_err-is_busy-clause-err : goal.returns-in_err-is_busy-clause-err
returns-in_err-is_busy-clause-err c =
    let old = world_of c.args.world.now in
    let part : ForEachInPart BringsFrom BringsFromInPart old (length old.names) (world_of c.bring_from.new.world) = record {
      place = c.loop-place.place;
      within = omega (arith, c.loop-place-test.true, c.len-place-end.ensures.len);
      between = world_of c.loop-place.world;
      before = c.loop-place.invariant.0;
      part = subst (λ k. BringsFromInPart k (world_of c.loop-place.world) (world_of c.bring_from.new.world)) c.new.ensures c.in_err-is_busy.ensures.err;
    } in
    on_error c.from_residual.result part

pub loop-place-preserved : goal.loop-place-preserved
loop-place-preserved c = (
  one_place BringsFrom _ _ _ _ c.loop-place.invariant.0
      (subst (λ k. BringsFrom k (world_of c.loop-place.world) (world_of c.bring_from.new.world)) c.new.ensures c.in_ok-is_busy.ensures.brought),
  idle_still c.loop-place.is_busy c.in_ok-is_busy.field-0 _ _ _ c.loop-place.invariant.1 c.in_ok-is_busy.ensures.idle,
  c.in_ok-is_busy.ensures.replies ∙ c.loop-place.invariant.2,
)
