use Rattle.fed_sim.proofs.Journals.{all_rooms}
use Rattle.fed_sim.proofs.Runs.{comes_sound}
use Rattle.fed_sim.proofs.Shapes.{has_shape}
use Rattle.fed_sim.proofs.Delivered.{way_follows}
use Rattle.fed_sim.proofs.WayMoves.{Laws}
use Rattle.fed_sim.proofs.laws.worlds_hold_together.Goals as goal

pub returns : goal.returns
returns c w comes =
    let law = c.nothing_is_lost_on_the_way.ensures in
    let laws : Laws = record { entered = law.entered; collected = law.collected; events = law.events; edus = law.edus } in
    let sound = comes_sound laws w comes in
    record {
      shape = has_shape w comes;
      ways = λ k d s way at there. way_follows w sound k d s way at there;
      rooms = λ k r s room at there. all_rooms w comes k s at r room there;
    }
