use Rattle.std.proofs.Common.{◌≡◌}
use Rattle.fed_sim.specs.Rounds.{Times, GivesOne}
use Rattle.fed_sim.specs.WorldParts.{replies_of, world_of}
use Rattle.fed_sim.proofs.rounds.give.Given as goal

-- what is done so far
abbrev pub invariant-loop : goal.invariant-loop
invariant-loop l =
    Times (GivesOne l.server l.place) (world_of l.fn.world) l.counter (world_of l.world) × (replies_of l.world ≡ replies_of l.fn.world)
