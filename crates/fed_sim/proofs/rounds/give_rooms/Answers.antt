use Rattle.std.proofs.Common.{arith, string_bytes, refl, ◌∙◌}
use Rattle.std.proofs.lemmas.List.{length-map}
use Rattle.fed_sim.specs.Rounds.{GivesAll, for_none}
use Rattle.fed_sim.specs.RoundsInPart.{GivesRoomsInPart}
use Rattle.fed_sim.specs.WorldParts.{world_of}
use Rattle.fed_sim.proofs.Servers.{on_error}
use Rattle.fed_sim.proofs.CalmSteps.{one_place, idle_still}
use Rattle.fed_sim.proofs.rounds.give_rooms.Goals as goal

pub loop-place-init : goal.loop-place-init
loop-place-init c = (for_none, λ _. refl, refl)

pub returns-in_err-is_busy-clause-err : goal.returns-in_err-is_busy-clause-err
returns-in_err-is_busy-clause-err c =
    let old = world_of c.args.world.now in
    let part : GivesRoomsInPart c.args.server old (world_of c.give.new.world) = record {
      place = c.loop-place.place;
      within = let all = length-map c.args.world.now.known.items string_bytes in omega (arith, c.loop-place-test.true, all, c.args.world.now.known.ok.0);
      between = world_of c.loop-place.world;
      before = c.loop-place.invariant.0;
      part = c.in_err-is_busy.ensures.err;
    } in
    on_error c.from_residual.result part

pub loop-place-preserved : goal.loop-place-preserved
loop-place-preserved c = (
  one_place (GivesAll c.args.server) _ _ _ _ c.loop-place.invariant.0 c.in_ok-is_busy.ensures.given,
  idle_still c.loop-place.is_busy c.in_ok-is_busy.field-0 _ _ _ c.loop-place.invariant.1 c.in_ok-is_busy.ensures.idle,
  c.in_ok-is_busy.ensures.replies ∙ c.loop-place.invariant.2,
)
