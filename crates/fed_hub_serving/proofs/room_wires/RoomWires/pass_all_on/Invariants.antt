use Rattle.std.proofs.Common.{◌≡◌, ◌++◌, List, length}
use Rattle.fed_hub_serving.specs.declared.bound.Bound.{Bound}
use Rattle.fed_hub_serving.specs.Bound.{AreBound, events_in}
use Rattle.fed_hub_serving.specs.Spreading.{SpreadAll}
use Rattle.fed_hub_serving.specs.WireRoom.{HaveRoom}
use Rattle.fed_hub_serving.proofs.room_wires.RoomWires.pass_all_on.Given as goal

-- the first of the events went, and the others go yet
abbrev pub invariant-loop-one : goal.invariant-loop-one
invariant-loop-one g l =
    (done : List Bound) × (l.fn.bound.items ≡ done ++ l.one-iterator.rest.items) × (l.events ≡ length done) × AreBound g.N.ServingNaming.known l.one-iterator.rest.items
    × SpreadAll g.N.ServingNaming.known l.points (events_in done) l.initial.self l.self × HaveRoom l.one-iterator.rest.items l.self.wires
