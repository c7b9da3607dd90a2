use Rattle.std.proofs.Common.{◌≡◌, false}
use Rattle.fed_sim.specs.Rounds.{ForEach, BringsFrom}
use Rattle.fed_sim.specs.WorldParts.{replies_of, world_of}
use Rattle.fed_sim.proofs.rounds.bring_all.Given as goal

-- what is done so far
abbrev pub invariant-loop-place : goal.invariant-loop-place
invariant-loop-place l =
    ForEach BringsFrom (world_of l.fn.world) l.place (world_of l.world) × (l.is_busy ≡ false → world_of l.world ≡ world_of l.fn.world) × (replies_of l.world ≡ replies_of l.fn.world)
