use Rattle.std.proofs.Common.{◌≡◌, ◌≤◌, ◌+◌, ◌++◌, map, length}
use Rattle.std.specs.Prelude.{vec_capacity}
use Rattle.fed_hub_serving.specs.Wires.{ended_of, ended_at}
use Rattle.fed_hub_serving.proofs.room_wires.end_each.Given as goal

abbrev pub invariant-loop-wire : goal.invariant-loop-wire
invariant-loop-wire l =
    (length l.ended.items + length l.wire-iterator.rest.items ≤ vec_capacity l.ended)
    × (map ended_of l.ended.items ++ map (ended_at l.place) l.wire-iterator.rest.items ≡ map ended_of l.initial.ended.items ++ map (ended_at l.place) l.fn.running.items)
