use Rattle.std.proofs.Common.{refl}
use Rattle.fed_sim.specs.Steps.{made, refused}
use Rattle.fed_sim.proofs.world.World.step.Goals as goal

pub returns-in-Ok : goal.returns-in-Ok
returns-in-Ok c = made c.in-Ok.ensures.made

pub returns-in-Err : goal.returns-in-Err
returns-in-Err c = refused refl c.in-Err.ensures.err
