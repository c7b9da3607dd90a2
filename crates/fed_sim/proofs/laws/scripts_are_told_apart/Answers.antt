use Rattle.fed_sim.proofs.ScriptsApart.{scripts_apart}
use Rattle.fed_sim.proofs.laws.scripts_are_told_apart.Goals as goal

pub returns : goal.returns
returns c = scripts_apart
