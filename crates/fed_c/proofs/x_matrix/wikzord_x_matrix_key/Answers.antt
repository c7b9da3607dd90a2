use Rattle.fed_c.proofs.Headers.{given}
use Rattle.fed_c.specs.XMatrix.{key_of}
use Rattle.fed_c.proofs.x_matrix.wikzord_x_matrix_key.Goals as goal

pub returns : goal.returns
returns c = given key_of c.args.header.now c.key.result _ _ _ c.give.ensures.gives c.give.ensures.refused c.key.ensures
