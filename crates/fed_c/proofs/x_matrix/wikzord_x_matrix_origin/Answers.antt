use Rattle.fed_c.proofs.Headers.{given}
use Rattle.fed_c.specs.XMatrix.{origin_of}
use Rattle.fed_c.proofs.x_matrix.wikzord_x_matrix_origin.Goals as goal

pub returns : goal.returns
returns c = given origin_of c.args.header.now c.origin.result _ _ _ c.give.ensures.gives c.give.ensures.refused c.origin.ensures
