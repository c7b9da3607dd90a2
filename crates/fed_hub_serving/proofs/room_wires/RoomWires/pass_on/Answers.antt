use Rattle.std.proofs.Common.{arith, ◌<◌, [], ◌∷◌, set, length, Some, sym, ap, ◌∙◌, subst}
use Rattle.std.proofs.lemmas.Option.{slice_get-get_or}
use Rattle.fed_hub_serving.specs.Spreading.{Passes, nowhere}
use Rattle.fed_hub_serving.specs.WireRoom.{HaveRoom}
use Rattle.fed_hub_serving.specs.Wires.{WiresState}
use Rattle.fed_hub_serving.proofs.WireRooms.{count_with, room_of_running}
use Rattle.fed_hub_serving.proofs.Wiring.{all, goes_here, goes_away}
use Rattle.fed_hub_serving.proofs.room_wires.RoomWires.pass_on.Goals as goal

pub send-requires : goal.send-requires
send-requires g c = λ runs.
    let w = c.self.inside in
    let k = c.in-Some.room in
    let running = w.running.items in
    let wire = c.index_mut-wire.result.now in
    let within : k < length running = omega (arith, c.if-room-len.true, c.len.ensures, w.running.ok.0) in
    let here = slice_get-get_or running k wire within ∙ ap Some (sym c.index_mut-wire.ensures.value) in
    let has = room_of_running (c.args.bound ∷ []) w.ended.items running w.is_shut c.self.invariant.shut c.self.invariant.runs (subst (λ (s : WiresState). HaveRoom (c.args.bound ∷ []) s.wires) (sym c.self.view_is) c.requires) in
    let enough = has k wire tt here runs in
    let count = count_with k c.args.bound [] c.in-Some.is in
    omega (arith, enough, count)

pub returns-then-room-len : goal.returns-then-room-len
returns-then-room-len g c =
    let w = c.self.inside in
    let k = c.in-Some.room in
    let running = w.running.items in
    let wire = c.index_mut-wire.result.now in
    let within : k < length running = omega (arith, c.if-room-len.true, c.len.ensures, w.running.ok.0) in
    subst (λ (s : WiresState). Passes c.args.bound c.args.place s (all w.ended.items running w.is_shut (set running k c.send.new.self))) c.self.view_is
    (goes_here w.ended.items running c.args.bound c.args.place k c.in-Some.is w.is_shut wire c.send.new.self c.self.invariant.shut c.self.invariant.runs within
    (slice_get-get_or running k wire within ∙ ap Some (sym c.index_mut-wire.ensures.value)) c.send.ensures)

pub returns-else-room-len : goal.returns-else-room-len
returns-else-room-len g c =
    let w = c.self.inside in
    subst (λ (s : WiresState). Passes c.args.bound c.args.place s s) c.self.view_is
    (goes_away w.ended.items w.running.items c.args.bound c.args.place c.in-Some.room c.in-Some.is w.is_shut c.self.invariant.shut c.self.invariant.runs (omega arith))

pub returns-in_default : goal.returns-in_default
returns-in_default g c = nowhere c.in_default.is
