-- The world that the fields of a `World` stand for.
use Rattle.std.specs.Prelude.{List}
use Rattle.fed_sim.specs.declared.outcome.Outcome.{Outcome}
use Rattle.fed_sim.specs.declared.world.World.{World}
pub use Rattle.fed_sim.specs.WorldFields.{packet_of}
use Rattle.fed_sim.specs.WorldFields.{world_with}
use Rattle.fed_sim.specs.World.{WorldState}

abbrev pub world_of : World → WorldState
world_of w = world_with w.list w.known.items w.epoch w.servers.items w.packets.items w.now

-- what the steps answered
abbrev pub replies_of : World → List Outcome
replies_of w = w.replies.items
