use Rattle.std.proofs.Common.{arith, map, string_bytes, String, Global, sym, ap, ◌∙◌}
use Rattle.std.proofs.lemmas.List.{take_all, length-map, get_or-map}
use Rattle.fed_sim.specs.declared.setup.RoomSetup.{RoomSetup}
use Rattle.fed_sim.proofs.Built.{built}
use Rattle.fed_sim.proofs.running.ids_of.Goals as goal

pub loop-room-init : goal.loop-room-init
loop-room-init c = ap (map string_bytes) c.in_ok-ids.ensures.items

pub loop-room-preserved : goal.loop-room-preserved
loop-room-preserved c =
    let rooms = c.args.rooms.now in
    let i = c.loop-room.room-index in
    let all = length-map rooms (λ (r : RoomSetup). string_bytes r.id) in
    built (λ (s : String Global). string_bytes s) c.loop-room.ids.items c.push.new.self.items (map (λ (r : RoomSetup). string_bytes r.id) rooms) i c.in_ok-from_str.field-0 c.loop-room.invariant c.in_ok-push.ensures.items
    (omega (arith, all, c.loop-room-test.true))
    (c.in_ok-from_str.ensures.ok ∙ c.deref.ensures ∙ ap (λ (r : RoomSetup). string_bytes r.id) c.room-item.is
    ∙ sym (get_or-map (λ (r : RoomSetup). string_bytes r.id) rooms i c.room-item.result _ c.loop-room-test.true))

pub returns : goal.returns
returns c =
    let all = length-map c.args.rooms.now (λ (r : RoomSetup). string_bytes r.id) in
    c.loop-room.invariant ∙ take_all c.loop-room.room-index (map (λ (r : RoomSetup). string_bytes r.id) c.args.rooms.now) (omega (arith, all, c.loop-room-test.false))
