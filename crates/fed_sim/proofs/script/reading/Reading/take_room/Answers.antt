use Rattle.std.proofs.Common.{◌≡◌, ◌∙◌, None, Some, length, vec_len, sym, arith}
use Rattle.fed_sim.specs.Script.{room_before_servers, room_behind_step, no_room, then_rooms, words_in}
use Rattle.fed_sim.specs.Setup.{room_fault_of}
use Rattle.fed_sim.proofs.ScriptWrong.{none_of, some_of}
use Rattle.fed_sim.proofs.script.reading.Reading.take_room.Goals as goal

pub returns-in_default-clause-wrong : goal.returns-in_default-clause-wrong
returns-in_default-clause-wrong c = room_before_servers c.args.id.now (words_in c.args.users.now) c.in_default.is

pub returns-then-not-is_empty-clause-wrong : goal.returns-then-not-is_empty-clause-wrong
returns-then-not-is_empty-clause-wrong c =
    let count : length c.args.self.now.steps.items ≡ vec_len c.args.self.now.steps = omega (arith, c.args.self.now.steps.ok.0) in
    room_behind_step c.args.id.now (words_in c.args.users.now) (some_of c.args.self.now.steps.items (vec_len c.args.self.now.steps) count (sym c.is_empty.ensures ∙ c.if-not-is_empty.true))

pub returns-in-Some-room_fault-clause-wrong : goal.returns-in-Some-room_fault-clause-wrong
returns-in-Some-room_fault-clause-wrong c =
    let count : length c.args.self.now.steps.items ≡ vec_len c.args.self.now.steps = omega (arith, c.args.self.now.steps.ok.0) in
    let none = none_of c.args.self.now.steps.items (vec_len c.args.self.now.steps) count (sym c.is_empty.ensures ∙ c.if-not-is_empty.false) in
    let fault : room_fault_of c.in-Some.servers c.args.self.now.rooms.items c.in_ok-room.room ≡ Some c.in-Some-room_fault.fault =
    rw (← c.names.ensures.names, ← c.deref.ensures.value) (sym c.room_fault.ensures ∙ c.in-Some-room_fault.is) in
    rw c.from.ensures (no_room c.in-Some.servers c.args.id.now (words_in c.args.users.now) c.in_ok-room.room c.in-Some-room_fault.fault c.in-Some.is none c.in_ok-room.ensures fault)

pub returns-clause-ok : goal.returns-clause-ok
returns-clause-ok c =
    let count : length c.args.self.now.steps.items ≡ vec_len c.args.self.now.steps = omega (arith, c.args.self.now.steps.ok.0) in
    let none = none_of c.args.self.now.steps.items (vec_len c.args.self.now.steps) count (sym c.is_empty.ensures ∙ c.if-not-is_empty.false) in
    let good : room_fault_of c.in-Some.servers c.args.self.now.rooms.items c.in_ok-room.room ≡ None =
    rw (← c.names.ensures.names, ← c.deref.ensures.value) (sym c.room_fault.ensures ∙ c.in_default-room_fault.is) in
    rw c.in_ok-push.ensures.items (then_rooms c.in-Some.servers c.args.id.now (words_in c.args.users.now) c.in_ok-room.room c.in-Some.is none c.in_ok-room.ensures good)
