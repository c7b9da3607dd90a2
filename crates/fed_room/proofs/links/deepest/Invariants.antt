use Rattle.std.proofs.Common.{◌≡◌, drop, take}
use Rattle.fed_room.specs.Links.{by_depth}
use Rattle.fed_room.proofs.links.deepest.Given as goal

-- the first of the ids from here on are in order
abbrev pub invariant-loop-place : goal.invariant-loop-place
invariant-loop-place l = l.sorted.items ≡ take 20 (by_depth l.graph.stored (drop l.place l.ids))
