use Rattle.std.proofs.Common.{◌≡◌, ◌++◌, map}
use Rattle.fed_hub_serving.specs.Wires.{running}
use Rattle.fed_hub_serving.proofs.room_wires.all_running.Given as goal

abbrev pub invariant-loop-end : goal.invariant-loop-end
invariant-loop-end l = l.wires.items ++ map running l.end-iterator.rest.items ≡ map running l.fn.ends.items
