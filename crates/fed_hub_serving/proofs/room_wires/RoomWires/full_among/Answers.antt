use Rattle.std.proofs.Common.{arith, ◌≡◌, ◌<◌, ◌++◌, [], true, List, map, length, sym, ap, ◌∙◌, subst}
use Rattle.std.specs.Vec.{with_items}
use Rattle.std.proofs.lemmas.List.{with_items_is}
use Rattle.fed_hub_serving.specs.declared.room_wire.RoomWire.{RoomWire}
use Rattle.fed_hub_serving.specs.Wires.{WiresState, ended_of}
use Rattle.fed_hub_serving.specs.WireRoom.{HaveTakenIn, HaveRoom, WasFull}
use Rattle.fed_hub_serving.proofs.Wiring.{all}
use Rattle.fed_hub_serving.proofs.WireRooms.{taken_behind, room_of_all, full_of_all, nothing_then, told_of}
use Rattle.fed_hub_serving.proofs.room_wires.RoomWires.full_among.Goals as goal

pub returns-clause-same : goal.returns-clause-same
returns-clause-same g c =
    let w = c.self.inside in
    let new = c.full_among.new.wires in
    let v = with_items w.running new in
    let items = with_items_is w.running new (omega (arith, c.full_among.auto.wires, ap length c.deref_mut.ensures.value, w.running.ok.0)) in
    let taken = subst (λ (y : List RoomWire × List RoomWire). HaveTakenIn y.0 y.1) (λ i. (c.deref_mut.ensures.value i, sym items i)) c.full_among.ensures.same in
    subst (λ (s : WiresState). HaveTakenIn s.wires (all w.ended.items w.running.items w.is_shut v.items).wires) c.self.view_is (taken_behind (map ended_of w.ended.items) w.running.items v.items taken)

pub returns-clause-full : goal.returns-clause-full
returns-clause-full g c =
    let w = c.self.inside in
    let new = c.full_among.new.wires in
    let v = with_items w.running new in
    let items = with_items_is w.running new (omega (arith, c.full_among.auto.wires, ap length c.deref_mut.ensures.value, w.running.ok.0)) in
    let count : length v.items ≡ length w.running.items = ap length items ∙ c.full_among.auto.wires ∙ ap length c.deref_mut.ensures.value in
    let shut : w.is_shut ≡ true → v.items ≡ [] = λ is. nothing_then w.running.items v.items (c.self.invariant.shut is) count in
    let bound = c.args.bound.now in
    let all = map ended_of w.ended.items ++ v.items in
    told_of c.full_among.result (HaveRoom bound new) (HaveRoom bound all) (WasFull bound new) (WasFull bound all)
    (λ has. room_of_all bound w.ended.items v.items w.is_shut shut c.self.invariant.runs (subst (HaveRoom bound) (sym items) has))
    (λ full was. full_of_all bound w.ended.items v.items w.is_shut shut c.self.invariant.runs full (subst (λ (ws : List RoomWire). WasFull bound ws full) (sym items) was)) c.full_among.ensures.full
