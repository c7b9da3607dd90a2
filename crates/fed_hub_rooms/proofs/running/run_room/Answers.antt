use Rattle.std.proofs.Common.{arith, ◌+◌, ◌≤◌}
use Rattle.fed_hub_rooms.specs.declared.ran.Ran.TheVariants.{Drained, TurnsSpent, Memory}
use Rattle.fed_hub_rooms.proofs.Runs.{turns_then, drained_within, ran_out_within}
use Rattle.fed_hub_rooms.proofs.running.run_room.Goals as goal

pub returns-in-Drained : goal.returns-in-Drained
returns-in-Drained g c =
    let S = g.A.RoomAccess.state in
    let made = c.loop.counter in
    let within : made + 1 ≤ c.args.turns = omega arith in
    drained_within (made + 1) c.args.turns c.args.token.now c.make_turn.new.token (S c.args.room.now) (S c.make_turn.new.room) within
    (turns_then made 1 c.args.token.now c.loop.token c.make_turn.new.token (S c.args.room.now) (S c.loop.room) (S c.make_turn.new.room) Drained c.loop.invariant c.in-Drained.ensures)

pub returns-in-Memory : goal.returns-in-Memory
returns-in-Memory g c =
    let S = g.A.RoomAccess.state in
    let made = c.loop.counter in
    let within : made + 1 ≤ c.args.turns = omega arith in
    ran_out_within (made + 1) c.args.turns c.args.token.now c.make_turn.new.token (S c.args.room.now) (S c.make_turn.new.room) within
    (turns_then made 1 c.args.token.now c.loop.token c.make_turn.new.token (S c.args.room.now) (S c.loop.room) (S c.make_turn.new.room) Memory c.loop.invariant c.in-Memory.ensures)

pub loop-preserved : goal.loop-preserved
loop-preserved g c =
    let S = g.A.RoomAccess.state in
    turns_then c.loop.counter 1 c.args.token.now c.loop.token c.make_turn.new.token (S c.args.room.now) (S c.loop.room) (S c.make_turn.new.room) TurnsSpent c.loop.invariant c.in-TurnsSpent.ensures
