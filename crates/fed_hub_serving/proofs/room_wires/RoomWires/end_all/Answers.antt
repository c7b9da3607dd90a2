use Rattle.std.proofs.Common.{◌≡◌, ◌++◌, List, map, true, sym, ap, ◌∙◌}
use Rattle.fed_hub_serving.specs.declared.room_wire.RoomWire.{RoomWire}
use Rattle.fed_hub_serving.specs.Wires.{WiresState, ended_of, ended_at, all_ended}
use Rattle.fed_hub_serving.proofs.Wiring.{all_of_them}
use Rattle.fed_hub_serving.proofs.room_wires.RoomWires.end_all.Goals as goal

pub returns : goal.returns
returns c =
    let w = c.self.inside in
    let place = c.args.place in
    let emptied = ap (λ v. v.items) c.replace-running.ensures.after ∙ c.new.ensures.items in
    let all = all_of_them place w.ended.items c.end_each.new.ended.items w.running.items
    (c.end_each.ensures ∙ ap (λ v. map ended_of w.ended.items ++ map (ended_at place) v.items) c.replace-running.ensures.value) in
    ap (λ (ws : List RoomWire). record { wires = ws; is_shut = true }) (ap (λ ws. map ended_of c.end_each.new.ended.items ++ ws) emptied ∙ all)
    ∙ ap (all_ended place) c.self.view_is
