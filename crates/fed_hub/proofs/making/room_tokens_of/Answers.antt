use Rattle.std.proofs.Common.{arith, List, length, sym, ap, ◌∙◌, subst}
use Rattle.std.specs.List.{slice_get}
use Rattle.std.proofs.lemmas.List.{length-map}
use Rattle.fed_event.specs.Checked.{CheckedEvent}
use Rattle.fed_wires.specs.ReceiveEnd.{new_receiver}
use Rattle.fed_wires.specs.WireId.{WireId}
use Rattle.fed_hub_rooms.specs.RoomHeld.{RoomHeld}
use Rattle.fed_hub.specs.Tokens.{rooms_new}
use Rattle.fed_hub.proofs.Waiting.{AreWaiting, all_waiting, first_waiting, others_waiting, one_longer, token_behind}
use Rattle.fed_hub.proofs.making.room_tokens_of.Goals as goal

pub loop-end-init : goal.loop-end-init
loop-end-init g c =
    let wires = g.N.ServingNaming.rooms in
    let rest = c.into_iter-end-iterator.result.rest.items in
    let none = c.in_ok-tokens.ensures.items in
    let all = c.into_iter-end-iterator.ensures.into_iter_gives.0 ∙ c.requires in
    record {
      made = none ∙ ap (λ (ts : List RoomHeld). rooms_new (length ts)) (sym none);
      count = omega (arith, ap length none, ap length all, length-map wires (λ (wire : WireId CheckedEvent). new_receiver wire));
      left = subst (λ n. AreWaiting wires n rest) (sym (ap length none)) (subst (AreWaiting wires 0) (sym all) (all_waiting wires));
    }

pub new-requires-clause-wire : goal.new-requires-clause-wire
new-requires-clause-wire g c =
    let wires = g.N.ServingNaming.rooms in
    let place = length c.loop-end.tokens.items in
    let left = subst (AreWaiting wires place) c.in-Some.ensures.steps.0 c.loop-end.invariant.left in
    ap (slice_get wires) (c.len-place.ensures ∙ c.loop-end.tokens.ok.0) ∙ (first_waiting wires place c.in-Some.«end» c.next.new.self.rest.items left).wire

pub new-requires-clause-new : goal.new-requires-clause-new
new-requires-clause-new g c =
    let wires = g.N.ServingNaming.rooms in
    let place = length c.loop-end.tokens.items in
    let left = subst (AreWaiting wires place) c.in-Some.ensures.steps.0 c.loop-end.invariant.left in
    (first_waiting wires place c.in-Some.«end» c.next.new.self.rest.items left).new

pub loop-end-preserved : goal.loop-end-preserved
loop-end-preserved g c =
    let wires = g.N.ServingNaming.rooms in
    let tokens = c.loop-end.tokens.items in
    let rest = c.next.new.self.rest.items in
    let left = subst (AreWaiting wires (length tokens)) c.in-Some.ensures.steps.0 c.loop-end.invariant.left in
    let more = c.in_ok-push.ensures.items in
    let longer = one_longer tokens _ _ more in
    record {
      made = token_behind tokens _ _ _ more c.new.ensures (c.len-place.ensures ∙ c.loop-end.tokens.ok.0) c.loop-end.invariant.made;
      count = omega (arith, longer, c.loop-end.invariant.count, ap length c.in-Some.ensures.steps.0);
      left = subst (λ n. AreWaiting wires n rest) (sym longer) (others_waiting wires (length tokens) c.in-Some.«end» rest left);
    }
