use Rattle.std.proofs.Common.{arith, ◌+◌, refl, sym, ap, subst, ◌∙◌}
use Rattle.fed_sim.specs.declared.world.World.{World}
use Rattle.fed_sim.specs.Rounds.{ForEach, for_none, IsCalmWay, IsCalmPair, itself, apart}
use Rattle.fed_sim.specs.RoundsInPart.{BringsFromInPart, IsCalmWayInPart}
use Rattle.fed_sim.specs.WorldParts.{replies_of, world_of}
use Rattle.fed_sim.proofs.Servers.{on_error}
use Rattle.fed_sim.proofs.CalmSteps.{one_place, idle_still, same_place, other_place}
use Rattle.fed_sim.proofs.rounds.bring_from.Goals.{then-ne+in_ok-is_busy, else-ne}
use Rattle.fed_sim.proofs.rounds.bring_from.Goals as goal

pub loop-place-init : goal.loop-place-init
loop-place-init c = (for_none, λ _. refl, refl)

pub returns-in_err-is_busy-clause-err : goal.returns-in_err-is_busy-clause-err
returns-in_err-is_busy-clause-err c =
    let old = world_of c.args.world.now in
    let part : BringsFromInPart c.args.server old (world_of c.bring.new.world) = record {
      place = c.loop-place.place;
      within = omega (arith, c.loop-place-test.true, c.len-place-end.ensures.len);
      between = world_of c.loop-place.world;
      before = c.loop-place.invariant.0;
      part = record {
        apart = other_place c.new-dest.result c.loop-place.place c.args.server c.ne.result c.new-dest.ensures c.ne.ensures c.if-ne.true;
        way = subst (λ d. IsCalmWayInPart c.args.server d (world_of c.loop-place.world) (world_of c.bring.new.world)) c.new-dest.ensures c.in_err-is_busy.ensures.err;
      };
    } in
    on_error c.from_residual.result part

pub loop-place-preserved : goal.loop-place-preserved
loop-place-preserved c =
    let old = world_of c.args.world.now in
    elim c.if-ne.branch [
      | then-ne+in_ok-is_busy w ↦ (
        subst (λ (x : World). ForEach (IsCalmPair c.args.server) old (c.loop-place.place + 1) (world_of x)) (sym w.world-is)
            (one_place (IsCalmPair c.args.server) _ _ _ _ c.loop-place.invariant.0
            (apart (world_of w.bring.new.world) (other_place c.new-dest.result c.loop-place.place c.args.server c.ne.result c.new-dest.ensures c.ne.ensures w.if-ne.true)
            (subst (λ d. IsCalmWay c.args.server d (world_of c.loop-place.world) (world_of w.bring.new.world)) c.new-dest.ensures w.in_ok-is_busy.ensures.brought))),
        (λ none. ap world_of w.world-is ∙ idle_still c.loop-place.is_busy w.in_ok-is_busy.field-0 _ _ _ c.loop-place.invariant.1 w.in_ok-is_busy.ensures.idle (sym w.is_busy-is ∙ none)),
        ap replies_of w.world-is ∙ w.in_ok-is_busy.ensures.replies ∙ c.loop-place.invariant.2,
      )
      | else-ne w ↦ (
        subst (λ (x : World). ForEach (IsCalmPair c.args.server) old (c.loop-place.place + 1) (world_of x)) (sym w.world-is)
            (one_place (IsCalmPair c.args.server) _ _ _ _ c.loop-place.invariant.0 (itself (same_place c.new-dest.result c.loop-place.place c.args.server c.ne.result c.new-dest.ensures c.ne.ensures w.if-ne.false))),
        (λ none. ap world_of w.world-is ∙ c.loop-place.invariant.1 (sym w.is_busy-is ∙ none)),
        ap replies_of w.world-is ∙ c.loop-place.invariant.2,
      )
    ]
