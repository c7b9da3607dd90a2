use Rattle.std.proofs.Common.{arith, ◌<◌, ◌≤◌, get_or, length, refl, ◌∙◌, subst}
use Rattle.std.proofs.lemmas.Option.{slice_get-get_or}
use Rattle.fed_hub_serving.specs.WireRoom.{count_for}
use Rattle.fed_hub_serving.proofs.WireRooms.{taken_none, taken_at, room_beyond, room_at, full_at}
use Rattle.fed_hub_serving.proofs.room_wires.full_for.Goals as goal

pub returns-in_err-room-clause-same : goal.returns-in_err-room-clause-same
returns-in_err-room-clause-same g c = taken_none c.args.wires.now

pub returns-then-room-wires-clause-same : goal.returns-then-room-wires-clause-same
returns-then-room-wires-clause-same g c = taken_none c.args.wires.now

pub returns-then-room-wires-clause-full : goal.returns-then-room-wires-clause-full
returns-then-room-wires-clause-full g c = room_beyond c.args.bound.now c.args.wires.now c.args.one.now.room c.in_ok-room.room c.in_ok-room.was c.if-room-wires.true

pub returns-in-Ok-clause-same : goal.returns-in-Ok-clause-same
returns-in-Ok-clause-same g c =
    let within : c.in_ok-room.room < length c.args.wires.now = omega (arith, c.if-room-wires.false) in
    let here = slice_get-get_or c.args.wires.now c.in_ok-room.room c.index-wires-room.result within in
    taken_at c.args.wires.now c.in_ok-room.room _ c.reserve.new.self here c.reserve.ensures.same c.reserve.ensures.more

pub returns-in-Ok-clause-full : goal.returns-in-Ok-clause-full
returns-in-Ok-clause-full g c =
    room_at c.args.bound.now c.args.wires.now c.args.one.now.room c.in_ok-room.room c.reserve.new.self c.in_ok-room.was
    (λ runs. subst (λ n. n ≤ c.reserve.new.self.end.room) c.count_for-count.ensures (c.in-Ok.ensures.room runs))

pub returns-in-Err-clause-full : goal.returns-in-Err-clause-full
returns-in-Err-clause-full g c =
    let k = c.in_ok-room.room in
    let bound = c.args.bound.now in
    let within : k < length c.args.wires.now = omega (arith, c.if-room-wires.false) in
    let wire = get_or c.args.wires.now k c.index-wires-room.result in
    let full = c.in-Err.ensures.full in
    full_at bound c.args.wires.now k wire c.reserve.new.self _ within c.reserve.ensures.same full.0 (subst (λ n. c.reserve.new.self.end.room < n) c.count_for-count.ensures full.1) refl
    (full.2 ∙ (λ i. record { wire = wire.end.wire; count = c.count_for-count.ensures i }))

pub returns-in-Err-clause-same : goal.returns-in-Err-clause-same
returns-in-Err-clause-same g c =
    let within : c.in_ok-room.room < length c.args.wires.now = omega (arith, c.if-room-wires.false) in
    let here = slice_get-get_or c.args.wires.now c.in_ok-room.room c.index-wires-room.result within in
    taken_at c.args.wires.now c.in_ok-room.room _ c.reserve.new.self here c.reserve.ensures.same c.reserve.ensures.more
