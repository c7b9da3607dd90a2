use Rattle.std.proofs.Common.{arith, ◌≡◌, ◌++◌, ◌∷◌, [], List, length, append_assoc, length-append, refl, sym, ap, ◌∙◌, subst}
use Rattle.std.proofs.lemmas.List.{map-append, length-map}
use Rattle.fed_event.specs.Checked.{CheckedEvent}
use Rattle.fed_hub_serving.specs.declared.bound.Bound.{Bound}
use Rattle.fed_hub_serving.specs.Bound.{AreBound, event_in, events_in}
use Rattle.fed_hub_serving.specs.Brought.{end_place}
use Rattle.fed_hub_serving.specs.Spreading.{Passes, SpreadAll}
use Rattle.fed_hub_serving.specs.WireRoom.{HaveRoom}
use Rattle.fed_hub_serving.proofs.Spreads.{none_went, one_more_went}
use Rattle.fed_hub_serving.proofs.WireRooms.{room_of_first, room_left}
use Rattle.fed_hub_serving.proofs.room_wires.RoomWires.pass_all_on.Goals as goal

pub loop-one-init : goal.loop-one-init
loop-one-init g c =
    let known = g.N.ServingNaming.known in
    let all = c.into_iter-one-iterator.ensures.into_iter_gives.0 in
    ([], sym all, refl, subst (AreBound known) (sym all) c.requires.bound, none_went known c.args.points c.args.self.now, subst (λ (bound : List Bound). HaveRoom bound c.args.self.now.wires) (sym all) c.requires.room)

pub pass_on-requires : goal.pass_on-requires
pass_on-requires g c =
    room_of_first c.in-Some.one c.next.new.self.rest.items c.loop-one.self.wires (subst (λ (bound : List Bound). HaveRoom bound c.loop-one.self.wires) c.in-Some.ensures.steps.0 c.loop-one.invariant.5)

pub loop-one-preserved : goal.loop-one-preserved
loop-one-preserved g c =
    let known = g.N.ServingNaming.known in
    let points = c.args.points in
    let one = c.in-Some.one in
    let later = c.next.new.self.rest.items in
    let way = c.loop-one.invariant in
    let done = way.0 in
    let taken = c.in-Some.ensures.steps.0 in
    let bound = subst (AreBound known) taken way.3 in
    let count : c.loop-one.events ≡ length (events_in done) = way.2 ∙ sym (length-map done event_in) in
    let passes = subst (λ n. Passes one (end_place points n) c.loop-one.self c.pass_on.new.self) count c.pass_on.ensures in (
      done ++ one ∷ [],
      way.1 ∙ ap (λ (r : List Bound). done ++ r) taken ∙ sym (append_assoc done (one ∷ []) later),
      omega (arith, way.2, length-append done (one ∷ [])),
      bound.1,
      subst (λ (es : List CheckedEvent). SpreadAll known points es c.args.self.now c.pass_on.new.self) (sym (map-append event_in done (one ∷ [])))
          (one_more_went known points (events_in done) c.args.self.now c.loop-one.self c.pass_on.new.self one way.4 bound.0 passes),
      room_left one later (end_place points c.loop-one.events) c.loop-one.self c.pass_on.new.self (subst (λ (bound : List Bound). HaveRoom bound c.loop-one.self.wires) taken way.5) c.pass_on.ensures,
    )
