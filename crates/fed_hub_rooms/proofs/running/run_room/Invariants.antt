use Rattle.fed_hub_rooms.specs.declared.ran.Ran.TheVariants.{TurnsSpent}
use Rattle.fed_hub_rooms.specs.Turns.{RoomRuns}
use Rattle.fed_hub_rooms.proofs.running.run_room.Given as goal

-- the turns so far
abbrev pub invariant-loop : goal.invariant-loop
invariant-loop g l = RoomRuns l.counter l.fn.token (g.A.RoomAccess.state l.fn.room) TurnsSpent l.token (g.A.RoomAccess.state l.room)
