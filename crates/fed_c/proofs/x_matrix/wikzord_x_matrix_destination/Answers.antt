use Rattle.fed_c.proofs.Headers.{given}
use Rattle.fed_c.specs.XMatrix.{destination_of}
use Rattle.fed_c.proofs.x_matrix.wikzord_x_matrix_destination.Goals as goal

pub returns : goal.returns
returns c = given destination_of c.args.header.now c.destination.result _ _ _ c.give.ensures.gives c.give.ensures.refused c.destination.ensures
