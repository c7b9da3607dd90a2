use Rattle.std.proofs.Common.{◌≡◌}
use Rattle.fed_sim.specs.Rounds.{AreRounds}
use Rattle.fed_sim.specs.WorldParts.{replies_of, world_of}
use Rattle.fed_sim.proofs.rounds.calm.Given as goal

-- what is done so far
abbrev pub invariant-loop : goal.invariant-loop
invariant-loop l =
    AreRounds l.counter (world_of l.fn.world) (world_of l.world) × (replies_of l.world ≡ replies_of l.fn.world)
