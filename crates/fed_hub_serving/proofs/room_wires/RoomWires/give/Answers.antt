use Rattle.std.proofs.Common.{arith, ◌<◌, map, length, set, Some, sym, ap, ◌∙◌, subst}
use Rattle.std.proofs.lemmas.Option.{slice_get-get_or}
use Rattle.fed_hub_serving.specs.Wires.{WiresState, ended_of}
use Rattle.fed_hub_serving.specs.WireRoom.{HaveTakenIn}
use Rattle.fed_hub_serving.proofs.Wiring.{all}
use Rattle.fed_hub_serving.proofs.WireRooms.{taken_none, taken_at, taken_behind}
use Rattle.fed_hub_serving.proofs.room_wires.RoomWires.give.Goals as goal

pub returns-then-room-len-clause-same : goal.returns-then-room-len-clause-same
returns-then-room-len-clause-same c =
    let w = c.self.inside in
    let running = w.running.items in
    let k = c.place-room.result in
    let wire = c.index_mut-wire.result.now in
    let within : k < length running = omega (arith, c.if-room-len.true, c.len.ensures, w.running.ok.0) in
    let here = slice_get-get_or running k wire within ∙ ap Some (sym c.index_mut-wire.ensures.value) in
    subst (λ (s : WiresState). HaveTakenIn s.wires (all w.ended.items running w.is_shut (set running k c.give.new.self)).wires) c.self.view_is
    (taken_behind (map ended_of w.ended.items) running (set running k c.give.new.self) (taken_at running k wire c.give.new.self here c.give.ensures.same c.give.ensures.more))

pub returns-else-room-len-clause-same : goal.returns-else-room-len-clause-same
returns-else-room-len-clause-same c = taken_none c.args.self.now.wires
