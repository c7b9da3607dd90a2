use Rattle.fed_hub.specs.Collecting.{none}
use Rattle.fed_hub.proofs.Going.{collected_so, one_in_hand}
use Rattle.fed_hub.proofs.hub.Hub.collect.Goals as goal

pub returns-in-Some-clause-collected : goal.returns-in-Some-clause-collected
returns-in-Some-clause-collected g c = none c.in-Some.told c.take_out.new.self c.in-Some.ensures.took

pub move_in-requires : goal.move_in-requires
move_in-requires g c = record { hand = one_in_hand c.args.token.now c.take_out.new.self c.in-None.ensures.took }

pub returns-in-None-clause-collected : goal.returns-in-None-clause-collected
returns-in-None-clause-collected g c =
    collected_so c.args.token.now _ c.take_out.new.self c.move_in.result c.move_in.new.outbox c.move_in.new.token c.in-None.ensures.took c.move_in.ensures
