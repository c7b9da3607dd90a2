use Rattle.std.proofs.Common.{◌≡◌, map, take}
use Rattle.std.specs.List.{range_with_len}
use Rattle.fed_sim.specs.Way.{ways_of, new_way}
use Rattle.fed_sim.proofs.server.ways.Given as goal

-- the ways so far
abbrev pub invariant-loop-place : goal.invariant-loop-place
invariant-loop-place l = ways_of l.ways.items ≡ take l.place (map new_way (range_with_len 0 l.count))
