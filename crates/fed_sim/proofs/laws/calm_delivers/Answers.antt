use Rattle.fed_sim.proofs.Delivering.{delivers}
use Rattle.fed_sim.proofs.WayMoves.{Laws}
use Rattle.fed_sim.proofs.laws.calm_delivers.Goals as goal

pub returns : goal.returns
returns c rounds old new comes are =
    let law = c.nothing_is_lost_on_the_way.ensures in
    let laws : Laws = record { entered = law.entered; collected = law.collected; events = law.events; edus = law.edus } in
    delivers laws law.next rounds old new comes are
